use Rattle.std.specs.BTreeMap.{get}
use Rattle.spec_block.specs.Worlds.{profiles_in}
use Rattle.lock_profile.specs.LockTurns.{turn_cmp}
use Rattle.figures.proofs.Tops.{AreSums, AreTops}
use Rattle.figures.proofs.sums.sums_of.Given as goal

abbrev pub invariant-loop-at : goal.invariant-loop-at
invariant-loop-at l = AreSums (profiles_in l.positions) l.weights l.list.items l.at × AreTops (profiles_in l.positions) l.list.items l.at (get turn_cmp l.sums)
