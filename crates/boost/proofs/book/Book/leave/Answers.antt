use Rattle.std.proofs.Common.{arith, ◌≡◌, ◌∙◌, set, refl, sym, subst}
use Rattle.std.specs.List.{AllByRecursion}
use Rattle.spec_ledger.specs.Book.{Content}
use Rattle.spec_ledger.specs.Events.{LeaveDone, IsNotEntered, IsStale}
use Rattle.boost.proofs.Events.{found_here, found_not_stale, are_standing, may_close_of}
use Rattle.boost.proofs.Levels.{IsBook-leave, LeaveDone-leave, was_entered, not_entered, stays, IsBook-stays}
use Rattle.boost.proofs.book.Book.leave.Goals as goal

pub find-requires : goal.find-requires
find-requires g c =
    let b : Content = record { opening = c.self.inside.opening.cells; now = c.self.inside.cells.cells; entries = c.self.inside.entries.items; attempts = c.self.inside.attempts.items; begun = c.self.inside.begun.items } in
    are_standing b c.self.inside.cells.unsettled c.self.inside.locks c.self.inside.standings.items c.self.invariant.0 c.deref.result.now c.deref-2.result.now c.deref.ensures.value c.deref-2.ensures.value

pub leave-requires : goal.leave-requires
leave-requires g c =
    let b : Content = record { opening = c.self.inside.opening.cells; now = c.self.inside.cells.cells; entries = c.self.inside.entries.items; attempts = c.self.inside.attempts.items; begun = c.self.inside.begun.items } in
    may_close_of b c.self.inside.cells.unsettled c.self.inside.locks c.self.inside.standings.items c.self.invariant.0 c.args.ticket.now.call c.args.ticket.now.number c.in-Some.i c.deref.result.now c.deref.ensures.value c.in-Some.ensures.found
    c.index_mut.result.now c.index_mut.ensures.value c.index_mut.result.now.inverses refl

pub invariant_of-self-2 : goal.invariant_of-self-2
invariant_of-self-2 g c =
    let b : Content = record { opening = c.self.inside.opening.cells; now = c.self.inside.cells.cells; entries = c.self.inside.entries.items; attempts = c.self.inside.attempts.items; begun = c.self.inside.begun.items } in (
      IsBook-leave b c.self.inside.cells.unsettled c.self.inside.locks c.self.inside.standings.items c.self.invariant.0 c.args.ticket.now.call c.args.ticket.now.number c.in-Some.i c.deref.result.now c.deref.ensures.value c.in-Some.ensures.found
          c.index_mut.result.now c.index_mut.ensures.value c.leave.new.self c.self.inside.cells c.leave.new.cells refl refl c.args.keep (c.if-not-leave.ensures.left refl),
      omega (arith, c.self.invariant.1),
    )

pub invariant_of-self : goal.invariant_of-self
invariant_of-self g c =
    let b : Content = record { opening = c.self.inside.opening.cells; now = c.self.inside.cells.cells; entries = c.self.inside.entries.items; attempts = c.self.inside.attempts.items; begun = c.self.inside.begun.items } in
    let same = c.if-not-leave.ensures.unchanged refl in (
      IsBook-stays b c.self.inside.cells.unsettled c.self.inside.locks c.self.inside.standings.items c.self.invariant.0 c.args.ticket.now.call c.args.ticket.now.number c.in-Some.i c.deref.result.now c.deref.ensures.value c.in-Some.ensures.found
          c.index_mut.result.now c.index_mut.ensures.value c.leave.new.self c.self.inside.cells c.leave.new.cells refl refl same.0 same.1,
      c.self.invariant.1,
    )

pub returns-then-not-leave-clause-err : goal.returns-then-not-leave-clause-err
returns-then-not-leave-clause-err g c =
    let b : Content = record { opening = c.self.inside.opening.cells; now = c.self.inside.cells.cells; entries = c.self.inside.entries.items; attempts = c.self.inside.attempts.items; begun = c.self.inside.begun.items } in
    let same = c.if-not-leave.ensures.unchanged refl in
    stays b c.self.inside.cells.unsettled c.self.inside.locks c.self.inside.standings.items c.self.invariant.0 c.args.ticket.now.call c.args.ticket.now.number c.in-Some.i c.deref.result.now c.deref.ensures.value c.in-Some.ensures.found
    c.index_mut.result.now c.index_mut.ensures.value c.leave.new.self c.self.inside.cells c.leave.new.cells refl refl same.0 same.1 ∙ c.self.view_is

pub returns-clause-ok : goal.returns-clause-ok
returns-clause-ok g c =
    let b : Content = record { opening = c.self.inside.opening.cells; now = c.self.inside.cells.cells; entries = c.self.inside.entries.items; attempts = c.self.inside.attempts.items; begun = c.self.inside.begun.items } in
    subst (λ x. LeaveDone x (record { opening = c.self.inside.opening.cells; now = c.leave.new.cells.cells; entries = c.self.inside.entries.items; attempts = set c.self.inside.attempts.items c.in-Some.i c.leave.new.self; begun = c.self.inside.begun.items }) c.args.ticket.now.call c.args.ticket.now.number c.args.keep) c.self.view_is
    (LeaveDone-leave b c.self.inside.cells.unsettled c.self.inside.locks c.self.inside.standings.items c.self.invariant.0 c.args.ticket.now.call c.args.ticket.now.number c.in-Some.i c.deref.result.now c.deref.ensures.value c.in-Some.ensures.found
    c.index_mut.result.now c.index_mut.ensures.value c.leave.new.self c.self.inside.cells c.leave.new.cells refl refl c.args.keep (c.if-not-leave.ensures.left refl))

pub returns-clause-not_entered : goal.returns-clause-not_entered
returns-clause-not_entered g c =
    let b : Content = record { opening = c.self.inside.opening.cells; now = c.self.inside.cells.cells; entries = c.self.inside.entries.items; attempts = c.self.inside.attempts.items; begun = c.self.inside.begun.items } in (
      λ e. cc,
      λ h. absurd
          (was_entered b c.self.inside.cells.unsettled c.self.inside.locks c.self.inside.standings.items c.self.invariant.0 c.args.ticket.now.call c.args.ticket.now.number c.in-Some.i c.deref.result.now c.deref.ensures.value c.in-Some.ensures.found
          c.index_mut.result.now c.index_mut.ensures.value c.leave.new.self c.self.inside.cells c.leave.new.cells refl refl c.args.keep (c.if-not-leave.ensures.left refl)
          (subst (λ x. IsNotEntered x c.args.ticket.now.call c.args.ticket.now.number) (sym c.self.view_is) h)),
    )

pub returns-then-not-leave-clause-not_entered : goal.returns-then-not-leave-clause-not_entered
returns-then-not-leave-clause-not_entered g c =
    let b : Content = record { opening = c.self.inside.opening.cells; now = c.self.inside.cells.cells; entries = c.self.inside.entries.items; attempts = c.self.inside.attempts.items; begun = c.self.inside.begun.items } in (
      λ _.
          subst (λ x. IsNotEntered x c.args.ticket.now.call c.args.ticket.now.number) c.self.view_is
          (not_entered b c.self.inside.cells.unsettled c.self.inside.locks c.self.inside.standings.items c.self.invariant.0 c.args.ticket.now.call c.args.ticket.now.number c.in-Some.i c.deref.result.now c.deref.ensures.value c.in-Some.ensures.found
          c.index_mut.result.now c.index_mut.ensures.value (c.if-not-leave.ensures.none refl)),
      λ _. refl,
    )

pub returns-in_default-clause-not_entered : goal.returns-in_default-clause-not_entered
returns-in_default-clause-not_entered g c =
    let b : Content = record { opening = c.self.inside.opening.cells; now = c.self.inside.cells.cells; entries = c.self.inside.entries.items; attempts = c.self.inside.attempts.items; begun = c.self.inside.begun.items } in
    let stale : IsStale b c.args.ticket.now.call c.args.ticket.now.number =
    subst (AllByRecursion (λ a. ¬ ((a.call ≡ c.args.ticket.now.call) × (a.number ≡ c.args.ticket.now.number)))) c.deref.ensures.value c.in_default.ensures.none in (
      λ e. cc,
      λ h. absurd
          (found_not_stale c.args.self.now c.args.ticket.now.call c.args.ticket.now.number h.before h.attempt h.later h.found
          (subst (λ x. IsStale x c.args.ticket.now.call c.args.ticket.now.number) c.self.view_is stale)),
    )

pub returns-in_default-clause-stale : goal.returns-in_default-clause-stale
returns-in_default-clause-stale g c = (
  λ _. subst (λ x. IsStale x c.args.ticket.now.call c.args.ticket.now.number) c.self.view_is
      (subst (AllByRecursion (λ a. ¬ ((a.call ≡ c.args.ticket.now.call) × (a.number ≡ c.args.ticket.now.number)))) c.deref.ensures.value c.in_default.ensures.none),
  λ _. refl,
)

pub returns-then-not-leave-clause-stale : goal.returns-then-not-leave-clause-stale
returns-then-not-leave-clause-stale g c =
    let b : Content = record { opening = c.self.inside.opening.cells; now = c.self.inside.cells.cells; entries = c.self.inside.entries.items; attempts = c.self.inside.attempts.items; begun = c.self.inside.begun.items } in (
      λ e. cc,
      λ h. absurd
          (found_not_stale b c.args.ticket.now.call c.args.ticket.now.number _ _ _ (found_here b c.self.inside.cells.unsettled c.self.inside.locks c.self.inside.standings.items c.self.invariant.0 c.args.ticket.now.call c.args.ticket.now.number c.in-Some.i c.deref.result.now c.deref.ensures.value c.in-Some.ensures.found)
          (subst (λ x. IsStale x c.args.ticket.now.call c.args.ticket.now.number) (sym c.self.view_is) h)),
    )

pub returns-clause-stale : goal.returns-clause-stale
returns-clause-stale g c =
    let b : Content = record { opening = c.self.inside.opening.cells; now = c.self.inside.cells.cells; entries = c.self.inside.entries.items; attempts = c.self.inside.attempts.items; begun = c.self.inside.begun.items } in (
      λ e. cc,
      λ h. absurd
          (found_not_stale b c.args.ticket.now.call c.args.ticket.now.number _ _ _ (found_here b c.self.inside.cells.unsettled c.self.inside.locks c.self.inside.standings.items c.self.invariant.0 c.args.ticket.now.call c.args.ticket.now.number c.in-Some.i c.deref.result.now c.deref.ensures.value c.in-Some.ensures.found)
          (subst (λ x. IsStale x c.args.ticket.now.call c.args.ticket.now.number) (sym c.self.view_is) h)),
    )
