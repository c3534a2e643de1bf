use Rattle.std.proofs.Common.{arith, ◌≡◌, refl, sym, subst, ◌∙◌}
use Rattle.std.specs.List.{AllByRecursion}
use Rattle.spec_ledger.specs.Book.{Content}
use Rattle.spec_ledger.specs.Events.{IsStale}
use Rattle.boost.proofs.Events.{found_here, found_not_stale, are_standing}
use Rattle.boost.proofs.Levels.{stays, IsBook-stays}
use Rattle.boost.proofs.book.Book.make_room.Goals as goal

pub find-requires : goal.find-requires
find-requires g c =
    let b : Content = record { opening = c.self.inside.opening.cells; now = c.self.inside.cells.cells; entries = c.self.inside.entries.items; attempts = c.self.inside.attempts.items; begun = c.self.inside.begun.items } in
    are_standing b c.self.inside.cells.unsettled c.self.inside.locks c.self.inside.standings.items c.self.invariant.0 c.deref.result.now c.deref-2.result.now c.deref.ensures.value c.deref-2.ensures.value

pub invariant_of-self : goal.invariant_of-self
invariant_of-self g c =
    let b : Content = record { opening = c.self.inside.opening.cells; now = c.self.inside.cells.cells; entries = c.self.inside.entries.items; attempts = c.self.inside.attempts.items; begun = c.self.inside.begun.items } in (
      IsBook-stays b c.self.inside.cells.unsettled c.self.inside.locks c.self.inside.standings.items c.self.invariant.0 c.args.ticket.now.call c.args.ticket.now.number c.in-Some.i c.deref.result.now c.deref.ensures.value c.in-Some.ensures.found
          c.index_mut.result.now c.index_mut.ensures.value c.make_room.new.self c.self.inside.cells c.self.inside.cells refl refl c.make_room.ensures refl,
      omega (arith, c.self.invariant.1),
    )

pub invariant_of-self-2 : goal.invariant_of-self-2
invariant_of-self-2 g c =
    let b : Content = record { opening = c.self.inside.opening.cells; now = c.self.inside.cells.cells; entries = c.self.inside.entries.items; attempts = c.self.inside.attempts.items; begun = c.self.inside.begun.items } in (
      IsBook-stays b c.self.inside.cells.unsettled c.self.inside.locks c.self.inside.standings.items c.self.invariant.0 c.args.ticket.now.call c.args.ticket.now.number c.in-Some.i c.deref.result.now c.deref.ensures.value c.in-Some.ensures.found
          c.index_mut.result.now c.index_mut.ensures.value c.make_room.new.self c.self.inside.cells c.self.inside.cells refl refl c.make_room.ensures refl,
      omega (arith, c.self.invariant.1),
    )

pub returns-in_default-clause-stale : goal.returns-in_default-clause-stale
returns-in_default-clause-stale g c = (
  λ _. subst (λ x. IsStale x c.args.ticket.now.call c.args.ticket.now.number) c.self.view_is
      (subst (AllByRecursion (λ a. ¬ ((a.call ≡ c.args.ticket.now.call) × (a.number ≡ c.args.ticket.now.number)))) c.deref.ensures.value c.in_default.ensures.none),
  λ _. refl,
)

pub returns-in_default-make_room-clause-stale : goal.returns-in_default-make_room-clause-stale
returns-in_default-make_room-clause-stale g c =
    let b : Content = record { opening = c.self.inside.opening.cells; now = c.self.inside.cells.cells; entries = c.self.inside.entries.items; attempts = c.self.inside.attempts.items; begun = c.self.inside.begun.items } in (
      λ e. cc,
      λ h. absurd
          (found_not_stale b c.args.ticket.now.call c.args.ticket.now.number _ _ _ (found_here b c.self.inside.cells.unsettled c.self.inside.locks c.self.inside.standings.items c.self.invariant.0 c.args.ticket.now.call c.args.ticket.now.number c.in-Some.i c.deref.result.now c.deref.ensures.value c.in-Some.ensures.found)
          (subst (λ x. IsStale x c.args.ticket.now.call c.args.ticket.now.number) (sym c.self.view_is) h)),
    )

pub returns-in_default-make_room-clause-same : goal.returns-in_default-make_room-clause-same
returns-in_default-make_room-clause-same g c =
    let b : Content = record { opening = c.self.inside.opening.cells; now = c.self.inside.cells.cells; entries = c.self.inside.entries.items; attempts = c.self.inside.attempts.items; begun = c.self.inside.begun.items } in
    stays b c.self.inside.cells.unsettled c.self.inside.locks c.self.inside.standings.items c.self.invariant.0 c.args.ticket.now.call c.args.ticket.now.number c.in-Some.i c.deref.result.now c.deref.ensures.value c.in-Some.ensures.found
    c.index_mut.result.now c.index_mut.ensures.value c.make_room.new.self c.self.inside.cells c.self.inside.cells refl refl c.make_room.ensures refl ∙ c.self.view_is

pub returns-clause-stale : goal.returns-clause-stale
returns-clause-stale g c =
    let b : Content = record { opening = c.self.inside.opening.cells; now = c.self.inside.cells.cells; entries = c.self.inside.entries.items; attempts = c.self.inside.attempts.items; begun = c.self.inside.begun.items } in (
      λ e. cc,
      λ h. absurd
          (found_not_stale b c.args.ticket.now.call c.args.ticket.now.number _ _ _ (found_here b c.self.inside.cells.unsettled c.self.inside.locks c.self.inside.standings.items c.self.invariant.0 c.args.ticket.now.call c.args.ticket.now.number c.in-Some.i c.deref.result.now c.deref.ensures.value c.in-Some.ensures.found)
          (subst (λ x. IsStale x c.args.ticket.now.call c.args.ticket.now.number) (sym c.self.view_is) h)),
    )

pub returns-clause-same : goal.returns-clause-same
returns-clause-same g c =
    let b : Content = record { opening = c.self.inside.opening.cells; now = c.self.inside.cells.cells; entries = c.self.inside.entries.items; attempts = c.self.inside.attempts.items; begun = c.self.inside.begun.items } in
    stays b c.self.inside.cells.unsettled c.self.inside.locks c.self.inside.standings.items c.self.invariant.0 c.args.ticket.now.call c.args.ticket.now.number c.in-Some.i c.deref.result.now c.deref.ensures.value c.in-Some.ensures.found
    c.index_mut.result.now c.index_mut.ensures.value c.make_room.new.self c.self.inside.cells c.self.inside.cells refl refl c.make_room.ensures refl ∙ c.self.view_is
