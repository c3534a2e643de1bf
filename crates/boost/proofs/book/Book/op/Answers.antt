use Rattle.std.proofs.Common.{arith, ◌≡◌, set, true, false, refl, sym, subst}
use Rattle.spec_ledger.specs.Book.{Content}
use Rattle.std.specs.List.{AllByRecursion}
use Rattle.spec_ledger.specs.Events.{OpDone, IsConflict, IsStale}
use Rattle.boost.proofs.Events.{found_here, found_not_stale, no_conflict, are_standing, call_row, row_of, AreCounts-here, granted_here, extended_here, conflict_here, IsBook-op, OpDone-op}
use Rattle.boost.proofs.book.Book.op.Goals as goal

pub may_take-requires : goal.may_take-requires
may_take-requires g c =
    let b : Content = record { opening = c.self.inside.opening.cells; now = c.self.inside.cells.cells; entries = c.self.inside.entries.items; attempts = c.self.inside.attempts.items; begun = c.self.inside.begun.items } in
    call_row b c.self.inside.cells.unsettled c.self.inside.locks c.self.inside.standings.items c.self.invariant.0 c.args.ticket.now.call c.args.ticket.now.number c.in-Some.i c.deref.result.now c.deref.ensures.value c.in-Some.ensures.found

pub returns-in_default-clause-conflict : goal.returns-in_default-clause-conflict
returns-in_default-clause-conflict g c =
    let b : Content = record { opening = c.self.inside.opening.cells; now = c.self.inside.cells.cells; entries = c.self.inside.entries.items; attempts = c.self.inside.attempts.items; begun = c.self.inside.begun.items } in
    let stale : IsStale b c.args.ticket.now.call c.args.ticket.now.number =
    subst (AllByRecursion (λ a. ¬ ((a.call ≡ c.args.ticket.now.call) × (a.number ≡ c.args.ticket.now.number)))) c.deref.ensures.value c.in_default.ensures.none in (
      λ e. cc,
      λ h. absurd
          (found_not_stale c.args.self.now c.args.ticket.now.call c.args.ticket.now.number h.before h.attempt h.later h.found
          (subst (λ x. IsStale x c.args.ticket.now.call c.args.ticket.now.number) c.self.view_is stale)),
    )

pub returns-then-not-may_take-clause-conflict : goal.returns-then-not-may_take-clause-conflict
returns-then-not-may_take-clause-conflict g c =
    let b : Content = record { opening = c.self.inside.opening.cells; now = c.self.inside.cells.cells; entries = c.self.inside.entries.items; attempts = c.self.inside.attempts.items; begun = c.self.inside.begun.items } in (
      λ _.
          subst (λ x. IsConflict x c.args.ticket.now.call c.args.ticket.now.number c.args.op) c.self.view_is
          (conflict_here b c.self.inside.cells.unsettled c.self.inside.locks c.self.inside.standings.items c.self.invariant.0 c.args.ticket.now.call c.args.ticket.now.number c.in-Some.i c.deref.result.now c.deref.ensures.value c.in-Some.ensures.found c.args.op
          (λ h. let no : false ≡ true = c.if-not-may_take.ensures.1 ((granted_here b c.self.inside.cells.unsettled c.self.inside.locks c.self.inside.standings.items c.self.invariant.0 c.args.ticket.now.call c.args.ticket.now.number c.in-Some.i c.deref.result.now c.deref.ensures.value c.in-Some.ensures.found
          c.args.op c.lock.result c.mode.result c.lock.ensures c.mode.ensures).1 h) in cc)),
      λ _. refl,
    )

pub returns-in_default-act-clause-conflict : goal.returns-in_default-act-clause-conflict
returns-in_default-act-clause-conflict g c =
    let b : Content = record { opening = c.self.inside.opening.cells; now = c.self.inside.cells.cells; entries = c.self.inside.entries.items; attempts = c.self.inside.attempts.items; begun = c.self.inside.begun.items } in (
      λ e. cc,
      λ h. absurd
          (no_conflict b c.self.inside.cells.unsettled c.self.inside.locks c.self.inside.standings.items c.self.invariant.0 c.args.ticket.now.call c.args.ticket.now.number c.in-Some.i c.deref.result.now c.deref.ensures.value c.in-Some.ensures.found c.args.op
          ((granted_here b c.self.inside.cells.unsettled c.self.inside.locks c.self.inside.standings.items c.self.invariant.0 c.args.ticket.now.call c.args.ticket.now.number c.in-Some.i c.deref.result.now c.deref.ensures.value c.in-Some.ensures.found
          c.args.op c.lock.result c.mode.result c.lock.ensures c.mode.ensures).0 (c.if-not-may_take.ensures.0 refl))
          (subst (λ x. IsConflict x c.args.ticket.now.call c.args.ticket.now.number c.args.op) (sym c.self.view_is) h)),
    )

pub returns-clause-conflict : goal.returns-clause-conflict
returns-clause-conflict g c =
    let b : Content = record { opening = c.self.inside.opening.cells; now = c.self.inside.cells.cells; entries = c.self.inside.entries.items; attempts = c.self.inside.attempts.items; begun = c.self.inside.begun.items } in (
      λ e. cc,
      λ h. absurd
          (no_conflict b c.self.inside.cells.unsettled c.self.inside.locks c.self.inside.standings.items c.self.invariant.0 c.args.ticket.now.call c.args.ticket.now.number c.in-Some.i c.deref.result.now c.deref.ensures.value c.in-Some.ensures.found c.args.op
          ((granted_here b c.self.inside.cells.unsettled c.self.inside.locks c.self.inside.standings.items c.self.invariant.0 c.args.ticket.now.call c.args.ticket.now.number c.in-Some.i c.deref.result.now c.deref.ensures.value c.in-Some.ensures.found
          c.args.op c.lock.result c.mode.result c.lock.ensures c.mode.ensures).0 (c.if-not-may_take.ensures.0 refl))
          (subst (λ x. IsConflict x c.args.ticket.now.call c.args.ticket.now.number c.args.op) (sym c.self.view_is) h)),
    )

pub act-requires-clause-call : goal.act-requires-clause-call
act-requires-clause-call g c =
    let b : Content = record { opening = c.self.inside.opening.cells; now = c.self.inside.cells.cells; entries = c.self.inside.entries.items; attempts = c.self.inside.attempts.items; begun = c.self.inside.begun.items } in
    row_of b c.self.inside.cells.unsettled c.self.inside.locks c.self.inside.standings.items c.self.invariant.0 c.args.ticket.now.call c.args.ticket.now.number c.in-Some.i c.deref.result.now c.deref.ensures.value c.in-Some.ensures.found
    c.index_mut.result.now c.index_mut.ensures.value

pub act-requires-clause-counts : goal.act-requires-clause-counts
act-requires-clause-counts g c =
    let b : Content = record { opening = c.self.inside.opening.cells; now = c.self.inside.cells.cells; entries = c.self.inside.entries.items; attempts = c.self.inside.attempts.items; begun = c.self.inside.begun.items } in
    AreCounts-here b c.self.inside.cells.unsettled c.self.inside.locks c.self.inside.standings.items c.self.invariant.0 c.args.ticket.now.call c.args.ticket.now.number c.in-Some.i c.deref.result.now c.deref.ensures.value c.in-Some.ensures.found

pub invariant_of-self-2 : goal.invariant_of-self-2
invariant_of-self-2 g c =
    let b : Content = record { opening = c.self.inside.opening.cells; now = c.self.inside.cells.cells; entries = c.self.inside.entries.items; attempts = c.self.inside.attempts.items; begun = c.self.inside.begun.items } in (
      IsBook-op b c.self.inside.cells.unsettled c.self.inside.locks c.self.inside.standings.items c.self.invariant.0 c.args.ticket.now.call c.args.ticket.now.number c.in-Some.i c.deref.result.now c.deref.ensures.value c.in-Some.ensures.found c.args.op
          ((granted_here b c.self.inside.cells.unsettled c.self.inside.locks c.self.inside.standings.items c.self.invariant.0 c.args.ticket.now.call c.args.ticket.now.number c.in-Some.i c.deref.result.now c.deref.ensures.value c.in-Some.ensures.found
          c.args.op c.lock.result c.mode.result c.lock.ensures c.mode.ensures).0 (c.if-not-may_take.ensures.0 refl))
          c.act.new.self
          (extended_here b c.self.inside.cells.unsettled c.self.inside.locks c.self.inside.standings.items c.self.invariant.0 c.args.ticket.now.call c.args.ticket.now.number c.in-Some.i c.deref.result.now c.deref.ensures.value c.in-Some.ensures.found
          c.args.op c.act.new.self c.index_mut.result.now c.index_mut.ensures.value c.in-Ok.ensures.attempt)
          c.act.new.cells.cells c.in-Ok.ensures.cells c.act.new.cells.unsettled c.in-Ok.ensures.unsettled
          c.index_mut.result.now c.index_mut.ensures.value c.act.new.locks c.in-Ok.ensures.locks,
      omega (arith, c.self.invariant.1),
    )

pub returns-clause-ok : goal.returns-clause-ok
returns-clause-ok g c =
    let b : Content = record { opening = c.self.inside.opening.cells; now = c.self.inside.cells.cells; entries = c.self.inside.entries.items; attempts = c.self.inside.attempts.items; begun = c.self.inside.begun.items } in
    subst (λ x. OpDone x (record { opening = c.self.inside.opening.cells; now = c.act.new.cells.cells; entries = c.self.inside.entries.items; attempts = set c.self.inside.attempts.items c.in-Some.i c.act.new.self; begun = c.self.inside.begun.items }) c.args.ticket.now.call c.args.ticket.now.number c.args.op c.in-Ok.reply) c.self.view_is
    (OpDone-op b c.self.inside.cells.unsettled c.self.inside.locks c.self.inside.standings.items c.self.invariant.0 c.args.ticket.now.call c.args.ticket.now.number c.in-Some.i c.deref.result.now c.deref.ensures.value c.in-Some.ensures.found c.args.op
    ((granted_here b c.self.inside.cells.unsettled c.self.inside.locks c.self.inside.standings.items c.self.invariant.0 c.args.ticket.now.call c.args.ticket.now.number c.in-Some.i c.deref.result.now c.deref.ensures.value c.in-Some.ensures.found
    c.args.op c.lock.result c.mode.result c.lock.ensures c.mode.ensures).0 (c.if-not-may_take.ensures.0 refl))
    c.act.new.self
    (extended_here b c.self.inside.cells.unsettled c.self.inside.locks c.self.inside.standings.items c.self.invariant.0 c.args.ticket.now.call c.args.ticket.now.number c.in-Some.i c.deref.result.now c.deref.ensures.value c.in-Some.ensures.found
    c.args.op c.act.new.self c.index_mut.result.now c.index_mut.ensures.value c.in-Ok.ensures.attempt)
    c.act.new.cells.cells c.in-Ok.ensures.cells c.in-Ok.reply c.in-Ok.ensures.reply)

pub find-requires : goal.find-requires
find-requires g c =
    let b : Content = record { opening = c.self.inside.opening.cells; now = c.self.inside.cells.cells; entries = c.self.inside.entries.items; attempts = c.self.inside.attempts.items; begun = c.self.inside.begun.items } in
    are_standing b c.self.inside.cells.unsettled c.self.inside.locks c.self.inside.standings.items c.self.invariant.0 c.deref.result.now c.deref-2.result.now c.deref.ensures.value c.deref-2.ensures.value

pub returns-then-not-may_take-clause-stale : goal.returns-then-not-may_take-clause-stale
returns-then-not-may_take-clause-stale g c =
    let b : Content = record { opening = c.self.inside.opening.cells; now = c.self.inside.cells.cells; entries = c.self.inside.entries.items; attempts = c.self.inside.attempts.items; begun = c.self.inside.begun.items } in (
      λ e. cc,
      λ h. absurd
          (found_not_stale b c.args.ticket.now.call c.args.ticket.now.number _ _ _ (found_here b c.self.inside.cells.unsettled c.self.inside.locks c.self.inside.standings.items c.self.invariant.0 c.args.ticket.now.call c.args.ticket.now.number c.in-Some.i c.deref.result.now c.deref.ensures.value c.in-Some.ensures.found)
          (subst (λ x. IsStale x c.args.ticket.now.call c.args.ticket.now.number) (sym c.self.view_is) h)),
    )

pub returns-in_default-act-clause-stale : goal.returns-in_default-act-clause-stale
returns-in_default-act-clause-stale g c =
    let b : Content = record { opening = c.self.inside.opening.cells; now = c.self.inside.cells.cells; entries = c.self.inside.entries.items; attempts = c.self.inside.attempts.items; begun = c.self.inside.begun.items } in (
      λ e. cc,
      λ h. absurd
          (found_not_stale b c.args.ticket.now.call c.args.ticket.now.number _ _ _ (found_here b c.self.inside.cells.unsettled c.self.inside.locks c.self.inside.standings.items c.self.invariant.0 c.args.ticket.now.call c.args.ticket.now.number c.in-Some.i c.deref.result.now c.deref.ensures.value c.in-Some.ensures.found)
          (subst (λ x. IsStale x c.args.ticket.now.call c.args.ticket.now.number) (sym c.self.view_is) h)),
    )

pub returns-clause-stale : goal.returns-clause-stale
returns-clause-stale g c =
    let b : Content = record { opening = c.self.inside.opening.cells; now = c.self.inside.cells.cells; entries = c.self.inside.entries.items; attempts = c.self.inside.attempts.items; begun = c.self.inside.begun.items } in (
      λ e. cc,
      λ h. absurd
          (found_not_stale b c.args.ticket.now.call c.args.ticket.now.number _ _ _ (found_here b c.self.inside.cells.unsettled c.self.inside.locks c.self.inside.standings.items c.self.invariant.0 c.args.ticket.now.call c.args.ticket.now.number c.in-Some.i c.deref.result.now c.deref.ensures.value c.in-Some.ensures.found)
          (subst (λ x. IsStale x c.args.ticket.now.call c.args.ticket.now.number) (sym c.self.view_is) h)),
    )
