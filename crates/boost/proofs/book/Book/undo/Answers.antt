use Rattle.std.proofs.Common.{refl, subst, inr, ◌∙◌, arith}
use Rattle.std.proofs.lemmas.List.{length-set}
use Rattle.spec_ledger.specs.Book.{Content}
use Rattle.spec_ledger.specs.Events.{UndoDone}
use Rattle.boost.specs.declared.standing.CallState.TheVariants.{Idle}
use Rattle.boost.proofs.Events.{are_standing, call_row, call_standing, later_known, may_close_of, IsBook-undo, UndoDone-undo}
use Rattle.boost.proofs.book.Book.undo.Goals as goal

pub take_all_back-requires : goal.take_all_back-requires
take_all_back-requires g c =
    let b : Content = record { opening = c.self.inside.opening.cells; now = c.self.inside.cells.cells; entries = c.self.inside.entries.items; attempts = c.self.inside.attempts.items; begun = c.self.inside.begun.items } in
    may_close_of b c.self.inside.cells.unsettled c.self.inside.locks c.self.inside.standings.items c.self.invariant.0 c.args.ticket.call c.args.ticket.number c.in-Some.i c.deref.result.now c.deref.ensures.value c.in-Some.ensures.found
    c.remove-attempt.result c.remove-attempt.ensures.value c.into_inverses.result.items c.into_inverses.ensures

pub invariant_of-self : goal.invariant_of-self
invariant_of-self g c =
    let b : Content = record { opening = c.self.inside.opening.cells; now = c.self.inside.cells.cells; entries = c.self.inside.entries.items; attempts = c.self.inside.attempts.items; begun = c.self.inside.begun.items } in (
      IsBook-undo b c.self.inside.cells.unsettled c.self.inside.locks c.self.inside.standings.items c.self.invariant.0 c.args.ticket.call c.args.ticket.number c.in-Some.i c.deref.result.now c.deref.ensures.value c.in-Some.ensures.found
          c.remove-attempt.result c.remove-attempt.ensures.value c.into_inverses.result.items c.into_inverses.ensures
          c.take_all_back.new.cells.unsettled c.take_all_back.ensures.unsettled c.remove-attempt.new.self.items c.remove-attempt.ensures.by_index.2 c.release.new.self c.release.ensures
          Idle _ refl c.deref-3.result.now c.deref-3.ensures.value c.note_places.new.standings.items c.note_places.ensures c.take_all_back.new.cells.cells c.take_all_back.ensures.cells refl,
      omega (arith, c.self.invariant.1, c.remove-attempt.ensures.len),
    )

pub returns-clause-done : goal.returns-clause-done
returns-clause-done g c =
    let b : Content = record { opening = c.self.inside.opening.cells; now = c.self.inside.cells.cells; entries = c.self.inside.entries.items; attempts = c.self.inside.attempts.items; begun = c.self.inside.begun.items } in
    inr (subst (λ x. UndoDone x (record { opening = c.self.inside.opening.cells; now = c.take_all_back.new.cells.cells; entries = c.self.inside.entries.items; attempts = c.remove-attempt.new.self.items; begun = c.self.inside.begun.items }) c.args.ticket.call c.args.ticket.number) c.self.view_is
    (UndoDone-undo b c.self.inside.cells.unsettled c.self.inside.locks c.self.inside.standings.items c.self.invariant.0 c.args.ticket.call c.args.ticket.number c.in-Some.i c.deref.result.now c.deref.ensures.value c.in-Some.ensures.found
    c.remove-attempt.result c.remove-attempt.ensures.value c.into_inverses.result.items c.into_inverses.ensures
    c.take_all_back.new.cells.unsettled c.take_all_back.ensures.unsettled c.remove-attempt.new.self.items c.remove-attempt.ensures.by_index.2 c.release.new.self c.release.ensures
    Idle _ refl c.deref-3.result.now c.deref-3.ensures.value c.note_places.new.standings.items c.note_places.ensures c.take_all_back.new.cells.cells c.take_all_back.ensures.cells))

pub release-requires : goal.release-requires
release-requires g c =
    let b : Content = record { opening = c.self.inside.opening.cells; now = c.self.inside.cells.cells; entries = c.self.inside.entries.items; attempts = c.self.inside.attempts.items; begun = c.self.inside.begun.items } in
    call_row b c.self.inside.cells.unsettled c.self.inside.locks c.self.inside.standings.items c.self.invariant.0 c.args.ticket.call c.args.ticket.number c.in-Some.i c.deref.result.now c.deref.ensures.value c.in-Some.ensures.found

pub find-requires : goal.find-requires
find-requires g c =
    let b : Content = record { opening = c.self.inside.opening.cells; now = c.self.inside.cells.cells; entries = c.self.inside.entries.items; attempts = c.self.inside.attempts.items; begun = c.self.inside.begun.items } in
    are_standing b c.self.inside.cells.unsettled c.self.inside.locks c.self.inside.standings.items c.self.invariant.0 c.deref.result.now c.deref-2.result.now c.deref.ensures.value c.deref-2.ensures.value

pub index_mut-requires : goal.index_mut-requires
index_mut-requires g c =
    let b : Content = record { opening = c.self.inside.opening.cells; now = c.self.inside.cells.cells; entries = c.self.inside.entries.items; attempts = c.self.inside.attempts.items; begun = c.self.inside.begun.items } in
    let below = call_standing b c.self.inside.cells.unsettled c.self.inside.locks c.self.inside.standings.items c.self.invariant.0 c.args.ticket.call c.args.ticket.number c.in-Some.i c.deref.result.now c.deref.ensures.value c.in-Some.ensures.found in
    omega (arith, below, c.self.inside.standings.ok.0)

pub note_places-requires : goal.note_places-requires
note_places-requires g c =
    let b : Content = record { opening = c.self.inside.opening.cells; now = c.self.inside.cells.cells; entries = c.self.inside.entries.items; attempts = c.self.inside.attempts.items; begun = c.self.inside.begun.items } in
    later_known b c.self.inside.cells.unsettled c.self.inside.locks c.self.inside.standings.items c.self.invariant.0 c.args.ticket.call c.args.ticket.number c.in-Some.i c.deref.result.now c.deref.ensures.value c.in-Some.ensures.found
    c.deref-3.result.now _ (c.deref-3.ensures.value ∙ c.remove-attempt.ensures.by_index.2) (length-set c.self.inside.standings.items c.args.ticket.call Idle)
