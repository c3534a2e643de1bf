use Rattle.std.proofs.Common.{take}
use Rattle.std.specs.BTreeMap.{get}
use Rattle.lock_profile.specs.LockTurns.{turn_cmp}
use Rattle.schedule.specs.Waves.{least_of, AreRaised}
use Rattle.schedule.proofs.waves.raise.Given as goal

abbrev pub invariant-loop-entry : goal.invariant-loop-entry
invariant-loop-entry g l = AreRaised (take l.entry-index l.entries) l.wave (least_of (get turn_cmp l.initial.least)) (least_of (get turn_cmp l.least))
