use Rattle.std.proofs.Common.{◌≡◌, ◌≤◌, ◌+◌, ◌-◌, ◌++◌, map}
use Rattle.std.specs.List.{range_with_len}
use Rattle.memory.specs.Runs.{IsNext, begun}
use Rattle.memory.specs.Start.{stands}
use Rattle.memory.proofs.start.Start.append.Given as goal

abbrev pub invariant-loop-done : goal.invariant-loop-done
invariant-loop-done g l = record {
  within : l.done ≤ l.count;
  next : IsNext l.self.runs.items l.index (l.at + l.done);
  bytes : l.bytes.items ≡ l.initial.bytes.items ++ map (begun (stands l.self)) (range_with_len l.at l.done);
}

abbrev pub decreases-loop-done : goal.decreases-loop-done
decreases-loop-done g l = l.count - l.done
