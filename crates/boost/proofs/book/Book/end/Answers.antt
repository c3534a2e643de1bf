use Rattle.std.proofs.Common.{◌≡◌, refl, sym, ◌∙◌, ap, subst, length, ◌<◌, ◌^◌, cond, arith}
use Rattle.std.proofs.lemmas.List.{length-set}
use Rattle.spec_ledger.specs.Book.{Content, back_all}
use Rattle.spec_ledger.specs.Events.{CommitDone, IsStale}
use Rattle.boost.specs.declared.standing.CallState.TheVariants.{Committed}
use Rattle.boost.specs.AttemptNumbers.{HasTrace}
use Rattle.boost.proofs.Events.{are_standing, call_row, later_known, call_standing, may_close_of, few_entries, found_here, found_not_stale, kept_trace, IsBook-commit, CommitDone-commit}
use Rattle.boost.proofs.book.Book.end.Goals as goal

pub overflow_cast-position : goal.overflow_cast-position
overflow_cast-position g c =
    let b : Content = record { opening = c.self.inside.opening.cells; now = c.self.inside.cells.cells; entries = c.self.inside.entries.items; attempts = c.self.inside.attempts.items; begun = c.self.inside.begun.items } in
    let few : length c.self.inside.entries.items < 2 ^ 32 = few_entries b c.self.invariant.0.kept in
    omega (arith, few, c.len-position.ensures, c.self.inside.entries.ok.0)

pub end_all-requires : goal.end_all-requires
end_all-requires g c =
    let b : Content = record { opening = c.self.inside.opening.cells; now = c.self.inside.cells.cells; entries = c.self.inside.entries.items; attempts = c.self.inside.attempts.items; begun = c.self.inside.begun.items } in
    may_close_of b c.self.inside.cells.unsettled c.self.inside.locks c.self.inside.standings.items c.self.invariant.0 c.args.ticket.call c.args.ticket.number c.in-Some.i c.deref.result.now c.deref.ensures.value c.in-Some.ensures.found
    c.remove-attempt.result c.remove-attempt.ensures.value c.into_entry-entry.result.1.items c.into_entry-entry.ensures.inverses

pub invariant_of-self : goal.invariant_of-self
invariant_of-self g c =
    let b : Content = record { opening = c.self.inside.opening.cells; now = c.self.inside.cells.cells; entries = c.self.inside.entries.items; attempts = c.self.inside.attempts.items; begun = c.self.inside.begun.items } in (
      IsBook-commit b c.self.inside.cells.unsettled c.self.inside.locks c.self.inside.standings.items c.self.invariant.0 c.args.ticket.call c.args.ticket.number c.in-Some.i c.deref.result.now c.deref.ensures.value c.in-Some.ensures.found
          c.remove-attempt.result c.remove-attempt.ensures.value c.into_entry-entry.result.1.items c.into_entry-entry.ensures.inverses
          c.end_all.new.cells.unsettled c.end_all.ensures.unsettled c.remove-attempt.new.self.items c.remove-attempt.ensures.by_index.2 c.release.new.self c.release.ensures Committed _ refl c.deref-3.result.now c.deref-3.ensures.value c.note_places.new.standings.items c.note_places.ensures
          c.args.outcome c.into_entry-entry.result.0 c.into_entry-entry.ensures.entry c.push.new.self.items c.in-Ok.ensures.items
          c.end_all.new.cells.cells (c.end_all.ensures.cells ∙ ap (λ x. cond x c.self.inside.cells.cells (back_all c.into_entry-entry.result.1.items c.self.inside.cells.cells)) c.returned.ensures) refl,
      omega (arith, c.self.invariant.1, c.remove-attempt.ensures.len, c.in-Ok.ensures.len, c.push.ensures.capacity),
    )

pub index_mut-requires : goal.index_mut-requires
index_mut-requires g c =
    let b : Content = record { opening = c.self.inside.opening.cells; now = c.self.inside.cells.cells; entries = c.self.inside.entries.items; attempts = c.self.inside.attempts.items; begun = c.self.inside.begun.items } in
    let below = call_standing b c.self.inside.cells.unsettled c.self.inside.locks c.self.inside.standings.items c.self.invariant.0 c.args.ticket.call c.args.ticket.number c.in-Some.i c.deref.result.now c.deref.ensures.value c.in-Some.ensures.found in
    omega (arith, below, c.self.inside.standings.ok.0)

pub release-requires : goal.release-requires
release-requires g c =
    let b : Content = record { opening = c.self.inside.opening.cells; now = c.self.inside.cells.cells; entries = c.self.inside.entries.items; attempts = c.self.inside.attempts.items; begun = c.self.inside.begun.items } in
    call_row b c.self.inside.cells.unsettled c.self.inside.locks c.self.inside.standings.items c.self.invariant.0 c.args.ticket.call c.args.ticket.number c.in-Some.i c.deref.result.now c.deref.ensures.value c.in-Some.ensures.found

pub returns-clause-ok : goal.returns-clause-ok
returns-clause-ok g c =
    let b : Content = record { opening = c.self.inside.opening.cells; now = c.self.inside.cells.cells; entries = c.self.inside.entries.items; attempts = c.self.inside.attempts.items; begun = c.self.inside.begun.items } in (
      c.remove-attempt.result.trace,
      subst (λ x. CommitDone x (record { opening = c.self.inside.opening.cells; now = c.end_all.new.cells.cells; entries = c.push.new.self.items; attempts = c.remove-attempt.new.self.items; begun = c.self.inside.begun.items }) c.args.ticket.call c.args.ticket.number c.remove-attempt.result.trace c.args.outcome c.len-position.result) c.self.view_is
          (CommitDone-commit b c.self.inside.cells.unsettled c.self.inside.locks c.self.inside.standings.items c.self.invariant.0 c.args.ticket.call c.args.ticket.number c.in-Some.i c.deref.result.now c.deref.ensures.value c.in-Some.ensures.found
          c.remove-attempt.result c.remove-attempt.ensures.value c.into_entry-entry.result.1.items c.into_entry-entry.ensures.inverses
          c.end_all.new.cells.unsettled c.end_all.ensures.unsettled c.remove-attempt.new.self.items c.remove-attempt.ensures.by_index.2 c.release.new.self c.release.ensures Committed _ refl c.deref-3.result.now c.deref-3.ensures.value c.note_places.new.standings.items c.note_places.ensures
          c.args.outcome c.into_entry-entry.result.0 c.into_entry-entry.ensures.entry c.push.new.self.items c.in-Ok.ensures.items
          c.end_all.new.cells.cells (c.end_all.ensures.cells ∙ ap (λ x. cond x c.self.inside.cells.cells (back_all c.into_entry-entry.result.1.items c.self.inside.cells.cells)) c.returned.ensures)
          c.remove-attempt.result.trace
          refl
          c.len-position.result (omega (arith, c.len-position.ensures, c.self.inside.entries.ok.0))),
    )

pub returns-clause-kept : goal.returns-clause-kept
returns-clause-kept g c = λ trace h.
    let b : Content = record { opening = c.self.inside.opening.cells; now = c.self.inside.cells.cells; entries = c.self.inside.entries.items; attempts = c.self.inside.attempts.items; begun = c.self.inside.begun.items } in
    let same : c.remove-attempt.result.trace ≡ trace =
    kept_trace b c.self.inside.cells.unsettled c.self.inside.locks c.self.inside.standings.items c.self.invariant.0 c.args.ticket.call c.args.ticket.number c.in-Some.i c.deref.result.now c.deref.ensures.value c.in-Some.ensures.found
    c.remove-attempt.result c.remove-attempt.ensures.value trace (subst (λ x. HasTrace x c.args.ticket.call c.args.ticket.number trace) (sym c.self.view_is) h) in
    subst (λ x. CommitDone x (record { opening = c.self.inside.opening.cells; now = c.end_all.new.cells.cells; entries = c.push.new.self.items; attempts = c.remove-attempt.new.self.items; begun = c.self.inside.begun.items }) c.args.ticket.call c.args.ticket.number trace c.args.outcome c.len-position.result) c.self.view_is
    (CommitDone-commit b c.self.inside.cells.unsettled c.self.inside.locks c.self.inside.standings.items c.self.invariant.0 c.args.ticket.call c.args.ticket.number c.in-Some.i c.deref.result.now c.deref.ensures.value c.in-Some.ensures.found
    c.remove-attempt.result c.remove-attempt.ensures.value c.into_entry-entry.result.1.items c.into_entry-entry.ensures.inverses
    c.end_all.new.cells.unsettled c.end_all.ensures.unsettled c.remove-attempt.new.self.items c.remove-attempt.ensures.by_index.2 c.release.new.self c.release.ensures Committed _ refl c.deref-3.result.now c.deref-3.ensures.value c.note_places.new.standings.items c.note_places.ensures
    c.args.outcome c.into_entry-entry.result.0 c.into_entry-entry.ensures.entry c.push.new.self.items c.in-Ok.ensures.items
    c.end_all.new.cells.cells (c.end_all.ensures.cells ∙ ap (λ x. cond x c.self.inside.cells.cells (back_all c.into_entry-entry.result.1.items c.self.inside.cells.cells)) c.returned.ensures)
    trace
    same
    c.len-position.result (omega (arith, c.len-position.ensures, c.self.inside.entries.ok.0)))

pub find-requires : goal.find-requires
find-requires g c =
    let b : Content = record { opening = c.self.inside.opening.cells; now = c.self.inside.cells.cells; entries = c.self.inside.entries.items; attempts = c.self.inside.attempts.items; begun = c.self.inside.begun.items } in
    are_standing b c.self.inside.cells.unsettled c.self.inside.locks c.self.inside.standings.items c.self.invariant.0 c.deref.result.now c.deref-2.result.now c.deref.ensures.value c.deref-2.ensures.value

pub note_places-requires : goal.note_places-requires
note_places-requires g c =
    let b : Content = record { opening = c.self.inside.opening.cells; now = c.self.inside.cells.cells; entries = c.self.inside.entries.items; attempts = c.self.inside.attempts.items; begun = c.self.inside.begun.items } in
    later_known b c.self.inside.cells.unsettled c.self.inside.locks c.self.inside.standings.items c.self.invariant.0 c.args.ticket.call c.args.ticket.number c.in-Some.i c.deref.result.now c.deref.ensures.value c.in-Some.ensures.found
    c.deref-3.result.now _ (c.deref-3.ensures.value ∙ c.remove-attempt.ensures.by_index.2) (length-set c.self.inside.standings.items c.args.ticket.call Committed)

pub unreachable-requires : goal.unreachable-requires
unreachable-requires g c = omega (arith, c.self.invariant.1, c.in-Some.ensures.found.below, c.in-Err.ensures.full, ap length c.deref.ensures.value)

pub returns-clause-stale : goal.returns-clause-stale
returns-clause-stale g c =
    let b : Content = record { opening = c.self.inside.opening.cells; now = c.self.inside.cells.cells; entries = c.self.inside.entries.items; attempts = c.self.inside.attempts.items; begun = c.self.inside.begun.items } in (
      λ e. cc,
      λ h. absurd
          (found_not_stale b c.args.ticket.call c.args.ticket.number _ _ _ (found_here b c.self.inside.cells.unsettled c.self.inside.locks c.self.inside.standings.items c.self.invariant.0 c.args.ticket.call c.args.ticket.number c.in-Some.i c.deref.result.now c.deref.ensures.value c.in-Some.ensures.found)
          (subst (λ x. IsStale x c.args.ticket.call c.args.ticket.number) (sym c.self.view_is) h)),
    )
