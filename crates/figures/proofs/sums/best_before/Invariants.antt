use Rattle.std.proofs.Common.{take}
use Rattle.std.specs.BTreeMap.{get}
use Rattle.lock_profile.specs.LockTurns.{turn_cmp}
use Rattle.figures.specs.Turns.{IsBest}
use Rattle.figures.proofs.sums.best_before.Given as goal

abbrev pub invariant-loop-entry : goal.invariant-loop-entry
invariant-loop-entry l = IsBest (get turn_cmp l.sums) (take l.entry-index l.entries) l.best
