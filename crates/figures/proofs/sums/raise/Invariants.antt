use Rattle.std.proofs.Common.{take}
use Rattle.std.specs.BTreeMap.{get}
use Rattle.lock_profile.specs.LockTurns.{turn_cmp}
use Rattle.figures.specs.Turns.{AreRaised}
use Rattle.figures.proofs.sums.raise.Given as goal

abbrev pub invariant-loop-entry : goal.invariant-loop-entry
invariant-loop-entry l = AreRaised (take l.entry-index l.entries) l.sum (get turn_cmp l.initial.sums) (get turn_cmp l.sums)
