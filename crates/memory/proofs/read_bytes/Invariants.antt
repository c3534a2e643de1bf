use Rattle.std.proofs.Common.{◌≡◌, ◌≤◌, ◌-◌}
use Rattle.memory.specs.Pieces.{bytes_in}
use Rattle.std.specs.Prelude.{option_copied}
use Rattle.memory.specs.Start.{begins}
use Rattle.memory.proofs.read_bytes.Given as goal

abbrev pub invariant-loop-done : goal.invariant-loop-done
invariant-loop-done g l = (l.done ≤ l.count) × (l.bytes.items ≡ bytes_in l.pieces.items (begins (option_copied l.start)) l.from l.done)

abbrev pub decreases-loop-done : goal.decreases-loop-done
decreases-loop-done g l = l.count - l.done
