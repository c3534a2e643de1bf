use Rattle.std.proofs.Common.{◌≡◌, ◌++◌, length, map, reverse}
use Rattle.std.specs.Prelude.{All}
use Rattle.lanes.specs.Lanes.{HasNothing, IsNew, IsNewPair}
use Rattle.lanes.proofs.paired.Given as goal

abbrev pub invariant-loop-lane : goal.invariant-loop-lane
invariant-loop-lane g l = record {
  lanes : All IsNew l.lanes.items;
  thieves : All HasNothing l.thieves.items;
  pairs : All IsNewPair l.pairs.items;
  as_many : length l.thieves.items ≡ length l.lanes.items;
  lanes_are : l.lanes.items ++ reverse (map (λ pair. pair.0) l.pairs.items) ≡ l.fn.lanes.items;
  thieves_are : l.thieves.items ++ reverse (map (λ pair. pair.1) l.pairs.items) ≡ l.fn.thieves.items;
}

abbrev pub decreases-loop-lane : goal.decreases-loop-lane
decreases-loop-lane g l = length l.lanes.items
