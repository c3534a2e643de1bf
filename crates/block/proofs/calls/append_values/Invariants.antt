use Rattle.std.proofs.Common.{◌≡◌, ◌++◌, take, length}
use Rattle.std.specs.Int.{w32, to_le_bytes}
use Rattle.std.specs.List.{flat_map}
use Rattle.spec_block.specs.Bytes.{value_bytes}
use Rattle.block.proofs.calls.append_values.Given as goal

abbrev pub invariant-loop-value : goal.invariant-loop-value
invariant-loop-value g l = l.out.items ≡ l.fn.out.items ++ (to_le_bytes w32 (length l.values) ++ flat_map value_bytes (take l.value-index l.values))
