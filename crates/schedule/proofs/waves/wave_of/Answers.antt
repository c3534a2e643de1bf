use Rattle.std.proofs.Common.{inl, inr}
use Rattle.std.specs.BTreeMap.{get}
use Rattle.lock_profile.specs.LockTurns.{turn_cmp}
use Rattle.schedule.specs.Waves.{least_of}
use Rattle.schedule.proofs.Least.{greatest_more}
use Rattle.schedule.proofs.waves.wave_of.Goals as goal
use Rattle.schedule.proofs.waves.wave_of.Goals.{then-wave-left, else-wave-left}

pub loop-entry-preserved : goal.loop-entry-preserved
loop-entry-preserved g c =
    greatest_more (least_of (get turn_cmp c.args.least.now)) c.args.entries.now c.loop-entry.entry-index _ c.loop-entry.wave c.least_at-left.result _ c.loop-entry-test.true c.loop-entry.invariant c.least_at-left.ensures
    (elim c.if-wave-left.branch [
      | then-wave-left w ↦ inl (w.if-wave-left.true, w.wave-is)
      | else-wave-left w ↦ inr (w.if-wave-left.false, w.wave-is)
    ])
