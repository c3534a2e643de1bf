use Rattle.std.specs.BTreeMap.{get}
use Rattle.lock_profile.specs.LockTurns.{turn_cmp}
use Rattle.schedule.specs.Turns.{AreHeld}
use Rattle.schedule.proofs.gates.holds_of.Given as goal

abbrev pub invariant-loop-profile : goal.invariant-loop-profile
invariant-loop-profile g l = AreHeld l.profiles (get turn_cmp l.numbers) l.holds.items l.profile-index
