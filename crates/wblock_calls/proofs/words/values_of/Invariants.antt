use Rattle.std.proofs.Common.{length, ◌-◌, ◌≤◌, map, take}
use Rattle.wblock_calls.specs.Texts.{AreValues}
use Rattle.wblock_calls.proofs.words.values_of.Given as goal

abbrev pub invariant-loop-at : goal.invariant-loop-at
invariant-loop-at l = record {
  within : l.at ≤ length l.words;
  values : AreValues (map (λ w. w.now) (take l.at l.words)) l.values.items;
}

abbrev pub decreases-loop-at : goal.decreases-loop-at
decreases-loop-at l = length l.words - l.at
