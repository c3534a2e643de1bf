use Rattle.std.proofs.Common.{◌≡◌, ◌++◌, drop}
use Rattle.figures.specs.Chains.{fuels_of}
use Rattle.figures.proofs.figures.fuels.Given as goal

abbrev pub invariant-loop-position : goal.invariant-loop-position
invariant-loop-position l = l.list.items ++ fuels_of (drop l.position-index l.positions) ≡ fuels_of l.positions
