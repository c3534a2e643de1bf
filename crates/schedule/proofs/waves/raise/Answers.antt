use Rattle.std.proofs.Common.{◌≡◌, ◌∙◌, ap, cond, get_or, Some, subst, arith}
use Rattle.std.specs.declared.cmp.Ordering.{Ordering}
use Rattle.std.specs.BTreeMap.{get}
use Rattle.std.specs.Ordering.{eq_by_cmp}
use Rattle.spec_ledger.specs.declared.Kind.TheVariants.{Map}
use Rattle.spec_ledger.specs.declared.Mode.TheVariants.{Read}
use Rattle.spec_ledger.specs.declared.Entry.{Entry}
use Rattle.lock_profile.specs.declared.lock_turn.LockTurn.{LockTurn}
use Rattle.lock_profile.specs.LockTurns.{turn_cmp}
use Rattle.schedule.specs.Turns.{next_turn}
use Rattle.schedule.specs.Waves.{least_of}
use Rattle.lock_profile.specs.contracts.lock_turn.LockTurnOrd.TheImpl as derived
use Rattle.lock_profile.proofs.Places.{derived_is}
use Rattle.schedule.proofs.Numbered.{fits_next}
use Rattle.schedule.proofs.Least.{raised_more, put_at, kept_at}
use Rattle.schedule.proofs.waves.raise.Goals as goal
use Rattle.schedule.proofs.waves.raise.Goals.{then-least_at-wave+in_ok-insert, else-least_at-wave}

pub overflow_add-next : goal.overflow_add-next
overflow_add-next g c = fits_next c.args.entries.now c.loop-entry.entry-index _ c.requires c.loop-entry-test.true

pub loop-entry-preserved : goal.loop-entry-preserved
loop-entry-preserved g c =
    let none : Entry = record { lock = record { contract = 0; kind = Map; key = 0 }; mode = Read; turn = 0 } in
    let at : LockTurn = next_turn (get_or c.args.entries.now c.loop-entry.entry-index none) in
    raised_more c.args.entries.now c.loop-entry.entry-index none c.args.wave (least_of (get turn_cmp c.args.least.now)) (least_of (get turn_cmp c.loop-entry.least)) (least_of (get turn_cmp c.if-least_at-wave.least))
    c.loop-entry-test.true c.loop-entry.invariant
    (elim c.if-least_at-wave.branch [
      | then-least_at-wave+in_ok-insert w ↦
          let Put : (LockTurn → LockTurn → Ordering) → Type 0 = λ R. (q : LockTurn) → get R c.if-least_at-wave.least q ≡ cond (eq_by_cmp R at q) (Some c.args.wave) (get R c.loop-entry.least q) in
          put_at at c.args.wave (get turn_cmp c.loop-entry.least) (get turn_cmp c.if-least_at-wave.least) (omega (arith, c.least_at.ensures, w.if-least_at-wave.true))
          (subst Put derived_is (λ q. ap (λ m. get derived.cmp-value.it m q) w.least-is ∙ w.in_ok-insert.ensures.updates.0 q))
      | else-least_at-wave w ↦
          kept_at at c.args.wave (least_of (get turn_cmp c.loop-entry.least)) (least_of (get turn_cmp c.if-least_at-wave.least)) (omega (arith, c.least_at.ensures, w.if-least_at-wave.false))
          (ap (λ m. least_of (get turn_cmp m)) w.least-is)
    ])
