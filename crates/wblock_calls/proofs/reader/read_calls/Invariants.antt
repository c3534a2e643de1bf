use Rattle.std.proofs.Common.{length, ◌-◌, ◌≤◌, map, take}
use Rattle.std.specs.List.{AllZip}
use Rattle.wblock_calls.specs.Texts.{IsLineOf}
use Rattle.wblock_calls.proofs.reader.read_calls.Given as goal

abbrev pub invariant-loop-at : goal.invariant-loop-at
invariant-loop-at l = record {
  within : l.at ≤ length l.ended;
  spelled : AllZip IsLineOf (map (λ s. s.now) (take l.at l.ended)) l.calls.items;
}

abbrev pub decreases-loop-at : goal.decreases-loop-at
decreases-loop-at l = length l.ended - l.at
