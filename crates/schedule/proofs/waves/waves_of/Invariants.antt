use Rattle.std.specs.BTreeMap.{get}
use Rattle.lock_profile.specs.LockTurns.{turn_cmp}
use Rattle.schedule.specs.Waves.{least_of}
use Rattle.schedule.proofs.Least.{AreLeast}
use Rattle.schedule.proofs.WaveSteps.{AreSoFar}
use Rattle.schedule.proofs.waves.waves_of.Given as goal

abbrev pub invariant-loop-profile : goal.invariant-loop-profile
invariant-loop-profile g l = AreSoFar l.profiles l.waves.items l.profile-index × AreLeast l.profiles l.waves.items l.profile-index (least_of (get turn_cmp l.least))
