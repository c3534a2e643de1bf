use Rattle.std.proofs.Common.{◌≡◌, refl, sym, set, get_or, ◌+◌, ◌≤◌, ◌∙◌, ap, subst, ◌++◌, ◌∷◌, [], length, ◌<◌, arith}
use Rattle.std.proofs.lemmas.Grind.{get_or_default_zero}
use Rattle.spec_ledger.specs.Book.{Content, call_is_new}
use Rattle.spec_ledger.specs.Events.{HasNoAttempt}
use Rattle.boost.specs.declared.standing.CallState.TheVariants.{Live}
use Rattle.boost.specs.BookInvariant.{IsBook}
use Rattle.boost.specs.AttemptNumbers.{BegunAs, IsPassed}
use Rattle.boost.proofs.Room.{no_room, succeeded}
use Rattle.boost.proofs.Events.{idle_before, live_before, live_new, committed_before, committed_alone, standing_below}
use Rattle.boost.proofs.Numbered.{IsBook-begin_as, BegunAs-begin_as}
use Rattle.boost.proofs.book.Book.begin_as.Goals as goal

pub index-requires : goal.index-requires
index-requires g c =
    let b : Content = record { opening = c.self.inside.opening.cells; now = c.self.inside.cells.cells; entries = c.self.inside.entries.items; attempts = c.self.inside.attempts.items; begun = c.self.inside.begun.items } in
    let below : c.args.call < length c.self.inside.begun.items = omega (arith, c.if-call-len.false, c.len.ensures, c.self.inside.begun.ok.0) in
    let within = standing_below b c.self.inside.cells.unsettled c.self.inside.locks c.self.inside.standings.items c.self.invariant.0 c.args.call below in
    omega (arith, within, c.self.inside.standings.ok.0)

pub returns-in-Live-clause-live : goal.returns-in-Live-clause-live
returns-in-Live-clause-live g c =
    let b : Content = record { opening = c.self.inside.opening.cells; now = c.self.inside.cells.cells; entries = c.self.inside.entries.items; attempts = c.self.inside.attempts.items; begun = c.self.inside.begun.items } in
    let below : c.args.call < length c.self.inside.begun.items = omega (arith, c.if-call-len.false, c.len.ensures, c.self.inside.begun.ok.0) in
    (λ _. subst (λ x. ¬ (HasNoAttempt c.args.call x.attempts)) c.self.view_is (live_before b c.self.inside.cells.unsettled c.self.inside.locks c.self.inside.standings.items c.self.invariant.0 c.args.call below c.index.result.now c.index.ensures _ c.in-Live.is), λ _. refl)

pub returns-in-Live-clause-committed : goal.returns-in-Live-clause-committed
returns-in-Live-clause-committed g c =
    let b : Content = record { opening = c.self.inside.opening.cells; now = c.self.inside.cells.cells; entries = c.self.inside.entries.items; attempts = c.self.inside.attempts.items; begun = c.self.inside.begun.items } in
    let below : c.args.call < length c.self.inside.begun.items = omega (arith, c.if-call-len.false, c.len.ensures, c.self.inside.begun.ok.0) in
    (λ e. cc, λ h. absurd (h (subst (λ x. call_is_new c.args.call x.entries) c.self.view_is (live_new b c.self.inside.cells.unsettled c.self.inside.locks c.self.inside.standings.items c.self.invariant.0 c.args.call below c.index.result.now c.index.ensures _ c.in-Live.is))))

pub returns-in-Committed-clause-live : goal.returns-in-Committed-clause-live
returns-in-Committed-clause-live g c =
    let b : Content = record { opening = c.self.inside.opening.cells; now = c.self.inside.cells.cells; entries = c.self.inside.entries.items; attempts = c.self.inside.attempts.items; begun = c.self.inside.begun.items } in
    let below : c.args.call < length c.self.inside.begun.items = omega (arith, c.if-call-len.false, c.len.ensures, c.self.inside.begun.ok.0) in
    (λ e. cc, λ h. absurd (h (subst (λ x. HasNoAttempt c.args.call x.attempts) c.self.view_is (committed_alone b c.self.inside.cells.unsettled c.self.inside.locks c.self.inside.standings.items c.self.invariant.0 c.args.call below c.index.result.now c.index.ensures c.in-Committed.is))))

pub returns-in-Committed-clause-committed : goal.returns-in-Committed-clause-committed
returns-in-Committed-clause-committed g c =
    let b : Content = record { opening = c.self.inside.opening.cells; now = c.self.inside.cells.cells; entries = c.self.inside.entries.items; attempts = c.self.inside.attempts.items; begun = c.self.inside.begun.items } in
    let below : c.args.call < length c.self.inside.begun.items = omega (arith, c.if-call-len.false, c.len.ensures, c.self.inside.begun.ok.0) in
    (λ _. subst (λ x. ¬ (call_is_new c.args.call x.entries)) c.self.view_is (committed_before b c.self.inside.cells.unsettled c.self.inside.locks c.self.inside.standings.items c.self.invariant.0 c.args.call below c.index.result.now c.index.ensures c.in-Committed.is), λ _. refl)

pub returns-then-number-index-clause-live : goal.returns-then-number-index-clause-live
returns-then-number-index-clause-live g c =
    let b : Content = record { opening = c.self.inside.opening.cells; now = c.self.inside.cells.cells; entries = c.self.inside.entries.items; attempts = c.self.inside.attempts.items; begun = c.self.inside.begun.items } in
    let below : c.args.call < length c.self.inside.begun.items = omega (arith, c.if-call-len.false, c.len.ensures, c.self.inside.begun.ok.0) in
    let idle = idle_before b c.self.inside.cells.unsettled c.self.inside.locks c.self.inside.standings.items c.self.invariant.0 c.args.call below c.index.result.now c.index.ensures c.in-Idle.is in
    (λ e. cc, λ h. absurd (h (subst (λ x. HasNoAttempt c.args.call x.attempts) c.self.view_is idle.0)))

pub returns-then-number-eq18446744073709551615-clause-live : goal.returns-then-number-eq18446744073709551615-clause-live
returns-then-number-eq18446744073709551615-clause-live g c =
    let b : Content = record { opening = c.self.inside.opening.cells; now = c.self.inside.cells.cells; entries = c.self.inside.entries.items; attempts = c.self.inside.attempts.items; begun = c.self.inside.begun.items } in
    let below : c.args.call < length c.self.inside.begun.items = omega (arith, c.if-call-len.false, c.len.ensures, c.self.inside.begun.ok.0) in
    let idle = idle_before b c.self.inside.cells.unsettled c.self.inside.locks c.self.inside.standings.items c.self.invariant.0 c.args.call below c.index.result.now c.index.ensures c.in-Idle.is in
    (λ e. cc, λ h. absurd (h (subst (λ x. HasNoAttempt c.args.call x.attempts) c.self.view_is idle.0)))

pub returns-then-number-index-clause-committed : goal.returns-then-number-index-clause-committed
returns-then-number-index-clause-committed g c =
    let b : Content = record { opening = c.self.inside.opening.cells; now = c.self.inside.cells.cells; entries = c.self.inside.entries.items; attempts = c.self.inside.attempts.items; begun = c.self.inside.begun.items } in
    let below : c.args.call < length c.self.inside.begun.items = omega (arith, c.if-call-len.false, c.len.ensures, c.self.inside.begun.ok.0) in
    let idle = idle_before b c.self.inside.cells.unsettled c.self.inside.locks c.self.inside.standings.items c.self.invariant.0 c.args.call below c.index.result.now c.index.ensures c.in-Idle.is in
    (λ e. cc, λ h. absurd (h (subst (λ x. call_is_new c.args.call x.entries) c.self.view_is idle.1)))

pub returns-then-number-eq18446744073709551615-clause-committed : goal.returns-then-number-eq18446744073709551615-clause-committed
returns-then-number-eq18446744073709551615-clause-committed g c =
    let b : Content = record { opening = c.self.inside.opening.cells; now = c.self.inside.cells.cells; entries = c.self.inside.entries.items; attempts = c.self.inside.attempts.items; begun = c.self.inside.begun.items } in
    let below : c.args.call < length c.self.inside.begun.items = omega (arith, c.if-call-len.false, c.len.ensures, c.self.inside.begun.ok.0) in
    let idle = idle_before b c.self.inside.cells.unsettled c.self.inside.locks c.self.inside.standings.items c.self.invariant.0 c.args.call below c.index.result.now c.index.ensures c.in-Idle.is in
    (λ e. cc, λ h. absurd (h (subst (λ x. call_is_new c.args.call x.entries) c.self.view_is idle.1)))

pub returns-then-is_err-clause-live : goal.returns-then-is_err-clause-live
returns-then-is_err-clause-live g c =
    let b : Content = record { opening = c.self.inside.opening.cells; now = c.self.inside.cells.cells; entries = c.self.inside.entries.items; attempts = c.self.inside.attempts.items; begun = c.self.inside.begun.items } in
    let below : c.args.call < length c.self.inside.begun.items = omega (arith, c.if-call-len.false, c.len.ensures, c.self.inside.begun.ok.0) in
    let idle = idle_before b c.self.inside.cells.unsettled c.self.inside.locks c.self.inside.standings.items c.self.invariant.0 c.args.call below c.index.result.now c.index.ensures c.in-Idle.is in
    (λ e. cc, λ h. absurd (h (subst (λ x. HasNoAttempt c.args.call x.attempts) c.self.view_is idle.0)))

pub returns-then-is_err-2-clause-live : goal.returns-then-is_err-2-clause-live
returns-then-is_err-2-clause-live g c =
    let b : Content = record { opening = c.self.inside.opening.cells; now = c.self.inside.cells.cells; entries = c.self.inside.entries.items; attempts = c.self.inside.attempts.items; begun = c.self.inside.begun.items } in
    let below : c.args.call < length c.self.inside.begun.items = omega (arith, c.if-call-len.false, c.len.ensures, c.self.inside.begun.ok.0) in
    let idle = idle_before b c.self.inside.cells.unsettled c.self.inside.locks c.self.inside.standings.items c.self.invariant.0 c.args.call below c.index.result.now c.index.ensures c.in-Idle.is in
    (λ e. cc, λ h. absurd (h (subst (λ x. HasNoAttempt c.args.call x.attempts) c.self.view_is idle.0)))

pub returns-then-is_err-clause-committed : goal.returns-then-is_err-clause-committed
returns-then-is_err-clause-committed g c =
    let b : Content = record { opening = c.self.inside.opening.cells; now = c.self.inside.cells.cells; entries = c.self.inside.entries.items; attempts = c.self.inside.attempts.items; begun = c.self.inside.begun.items } in
    let below : c.args.call < length c.self.inside.begun.items = omega (arith, c.if-call-len.false, c.len.ensures, c.self.inside.begun.ok.0) in
    let idle = idle_before b c.self.inside.cells.unsettled c.self.inside.locks c.self.inside.standings.items c.self.invariant.0 c.args.call below c.index.result.now c.index.ensures c.in-Idle.is in
    (λ e. cc, λ h. absurd (h (subst (λ x. call_is_new c.args.call x.entries) c.self.view_is idle.1)))

pub returns-then-is_err-2-clause-committed : goal.returns-then-is_err-2-clause-committed
returns-then-is_err-2-clause-committed g c =
    let b : Content = record { opening = c.self.inside.opening.cells; now = c.self.inside.cells.cells; entries = c.self.inside.entries.items; attempts = c.self.inside.attempts.items; begun = c.self.inside.begun.items } in
    let below : c.args.call < length c.self.inside.begun.items = omega (arith, c.if-call-len.false, c.len.ensures, c.self.inside.begun.ok.0) in
    let idle = idle_before b c.self.inside.cells.unsettled c.self.inside.locks c.self.inside.standings.items c.self.invariant.0 c.args.call below c.index.result.now c.index.ensures c.in-Idle.is in
    (λ e. cc, λ h. absurd (h (subst (λ x. call_is_new c.args.call x.entries) c.self.view_is idle.1)))

pub returns-clause-live : goal.returns-clause-live
returns-clause-live g c =
    let b : Content = record { opening = c.self.inside.opening.cells; now = c.self.inside.cells.cells; entries = c.self.inside.entries.items; attempts = c.self.inside.attempts.items; begun = c.self.inside.begun.items } in
    let below : c.args.call < length c.self.inside.begun.items = omega (arith, c.if-call-len.false, c.len.ensures, c.self.inside.begun.ok.0) in
    let idle = idle_before b c.self.inside.cells.unsettled c.self.inside.locks c.self.inside.standings.items c.self.invariant.0 c.args.call below c.index.result.now c.index.ensures c.in-Idle.is in
    (λ e. cc, λ h. absurd (h (subst (λ x. HasNoAttempt c.args.call x.attempts) c.self.view_is idle.0)))

pub returns-clause-committed : goal.returns-clause-committed
returns-clause-committed g c =
    let b : Content = record { opening = c.self.inside.opening.cells; now = c.self.inside.cells.cells; entries = c.self.inside.entries.items; attempts = c.self.inside.attempts.items; begun = c.self.inside.begun.items } in
    let below : c.args.call < length c.self.inside.begun.items = omega (arith, c.if-call-len.false, c.len.ensures, c.self.inside.begun.ok.0) in
    let idle = idle_before b c.self.inside.cells.unsettled c.self.inside.locks c.self.inside.standings.items c.self.invariant.0 c.args.call below c.index.result.now c.index.ensures c.in-Idle.is in
    (λ e. cc, λ h. absurd (h (subst (λ x. call_is_new c.args.call x.entries) c.self.view_is idle.1)))

pub index_mut-requires-2 : goal.index_mut-requires-2
index_mut-requires-2 g c =
    let b : Content = record { opening = c.self.inside.opening.cells; now = c.self.inside.cells.cells; entries = c.self.inside.entries.items; attempts = c.self.inside.attempts.items; begun = c.self.inside.begun.items } in
    let below : c.args.call < length c.self.inside.begun.items = omega (arith, c.if-call-len.false, c.len.ensures, c.self.inside.begun.ok.0) in
    let within = standing_below b c.self.inside.cells.unsettled c.self.inside.locks c.self.inside.standings.items c.self.invariant.0 c.args.call below in
    omega (arith, within, c.self.inside.standings.ok.0)

pub returns-in-Live-clause-passed : goal.returns-in-Live-clause-passed
returns-in-Live-clause-passed g c =
    let b : Content = record { opening = c.self.inside.opening.cells; now = c.self.inside.cells.cells; entries = c.self.inside.entries.items; attempts = c.self.inside.attempts.items; begun = c.self.inside.begun.items } in
    let below : c.args.call < length c.self.inside.begun.items = omega (arith, c.if-call-len.false, c.len.ensures, c.self.inside.begun.ok.0) in (
      λ e. cc,
      λ h. absurd (subst (λ x. ¬ (HasNoAttempt c.args.call x.attempts)) c.self.view_is (live_before b c.self.inside.cells.unsettled c.self.inside.locks c.self.inside.standings.items c.self.invariant.0 c.args.call below c.index.result.now c.index.ensures _ c.in-Live.is) h.not_live),
    )

pub returns-in-Committed-clause-passed : goal.returns-in-Committed-clause-passed
returns-in-Committed-clause-passed g c =
    let b : Content = record { opening = c.self.inside.opening.cells; now = c.self.inside.cells.cells; entries = c.self.inside.entries.items; attempts = c.self.inside.attempts.items; begun = c.self.inside.begun.items } in
    let below : c.args.call < length c.self.inside.begun.items = omega (arith, c.if-call-len.false, c.len.ensures, c.self.inside.begun.ok.0) in (
      λ e. cc,
      λ h. absurd (subst (λ x. ¬ (call_is_new c.args.call x.entries)) c.self.view_is (committed_before b c.self.inside.cells.unsettled c.self.inside.locks c.self.inside.standings.items c.self.invariant.0 c.args.call below c.index.result.now c.index.ensures c.in-Committed.is) h.not_committed),
    )

pub returns-then-number-index-clause-passed : goal.returns-then-number-index-clause-passed
returns-then-number-index-clause-passed g c =
    let b : Content = record { opening = c.self.inside.opening.cells; now = c.self.inside.cells.cells; entries = c.self.inside.entries.items; attempts = c.self.inside.attempts.items; begun = c.self.inside.begun.items } in
    let below : c.args.call < length c.self.inside.begun.items = omega (arith, c.if-call-len.false, c.len.ensures, c.self.inside.begun.ok.0) in
    let idle = idle_before b c.self.inside.cells.unsettled c.self.inside.locks c.self.inside.standings.items c.self.invariant.0 c.args.call below c.index.result.now c.index.ensures c.in-Idle.is in
    let count : c.index-2.result.now ≡ get_or c.self.inside.begun.items c.args.call 0 = c.index-2.ensures ∙ get_or_default_zero c.self.inside.begun.items c.args.call c.index-2.result.now below in
    let passed : IsPassed b c.args.call c.args.number = record { not_live = idle.0; not_committed = idle.1; passed = subst (λ x. c.args.number < x) count c.if-number-index.true } in
    (λ _. subst (λ x. IsPassed x c.args.call c.args.number) c.self.view_is passed, λ _. refl)

pub invariant_of-self-2 : goal.invariant_of-self-2
invariant_of-self-2 g c =
    let b : Content = record { opening = c.self.inside.opening.cells; now = c.self.inside.cells.cells; entries = c.self.inside.entries.items; attempts = c.self.inside.attempts.items; begun = c.self.inside.begun.items } in
    let below : c.args.call < length c.self.inside.begun.items = omega (arith, c.if-call-len.false, c.len.ensures, c.self.inside.begun.ok.0) in
    let idle = idle_before b c.self.inside.cells.unsettled c.self.inside.locks c.self.inside.standings.items c.self.invariant.0 c.args.call below c.index.result.now c.index.ensures c.in-Idle.is in
    let room : c.reserve-2.new.self.len + (c.len-place.result + 1) ≤ c.reserve-2.new.self.cap = succeeded c.reserve-2.result c.if-is_err-2.ensures.value c.reserve-2.ensures.ok in (
      subst (λ es. IsBook (record { opening = c.self.inside.opening.cells; now = c.self.inside.cells.cells; entries = es; attempts = c.push.new.self.items; begun = set c.self.inside.begun.items c.args.call (c.args.number + 1) }) c.self.inside.cells.unsettled c.self.inside.locks (set c.self.inside.standings.items c.args.call (Live c.len-place.result))) (sym c.reserve-2.ensures.items)
          (IsBook-begin_as b c.self.inside.cells.unsettled c.self.inside.locks c.self.inside.standings.items c.self.invariant.0 c.args.call below idle.0 idle.1
          c.push.new.self.items (set c.self.inside.begun.items c.args.call (c.args.number + 1)) c.fresh-attempt.result c.args.number c.fresh-attempt.ensures
          (c.in-Ok.ensures.items ∙ ap (λ x. x ++ c.fresh-attempt.result ∷ []) c.reserve.ensures.items) refl
          c.len-place.result (omega (arith, c.len-place.ensures, c.reserve.ensures.len, c.self.inside.attempts.ok.0)) _ refl),
      omega (arith, room, c.len-place.ensures, c.in-Ok.ensures.len),
    )

pub returns-clause-ok : goal.returns-clause-ok
returns-clause-ok g c =
    let b : Content = record { opening = c.self.inside.opening.cells; now = c.self.inside.cells.cells; entries = c.self.inside.entries.items; attempts = c.self.inside.attempts.items; begun = c.self.inside.begun.items } in
    let below : c.args.call < length c.self.inside.begun.items = omega (arith, c.if-call-len.false, c.len.ensures, c.self.inside.begun.ok.0) in
    let idle = idle_before b c.self.inside.cells.unsettled c.self.inside.locks c.self.inside.standings.items c.self.invariant.0 c.args.call below c.index.result.now c.index.ensures c.in-Idle.is in
    let count : c.index-2.result.now ≡ get_or c.self.inside.begun.items c.args.call 0 = c.index-2.ensures ∙ get_or_default_zero c.self.inside.begun.items c.args.call c.index-2.result.now below in (
      refl,
      refl,
      subst (λ x. BegunAs x (record { opening = c.self.inside.opening.cells; now = c.self.inside.cells.cells; entries = c.reserve-2.new.self.items; attempts = c.push.new.self.items; begun = set c.self.inside.begun.items c.args.call (c.args.number + 1) }) c.args.call c.args.number) c.self.view_is
          (subst (λ es. BegunAs b (record { opening = c.self.inside.opening.cells; now = c.self.inside.cells.cells; entries = es; attempts = c.push.new.self.items; begun = set c.self.inside.begun.items c.args.call (c.args.number + 1) }) c.args.call c.args.number) (sym c.reserve-2.ensures.items)
          (BegunAs-begin_as b c.self.inside.cells.unsettled c.self.inside.locks c.self.inside.standings.items c.self.invariant.0 c.args.call below idle.0 idle.1
          c.push.new.self.items (set c.self.inside.begun.items c.args.call (c.args.number + 1)) c.fresh-attempt.result c.args.number c.fresh-attempt.ensures
          (c.in-Ok.ensures.items ∙ ap (λ x. x ++ c.fresh-attempt.result ∷ []) c.reserve.ensures.items) refl (subst (λ x. x ≤ c.args.number) count c.if-number-index.false))),
    )

pub unreachable-requires : goal.unreachable-requires
unreachable-requires g c = no_room c.reserve.result c.if-is_err.ensures.value c.reserve.ensures.ok c.in-Err.ensures.full
