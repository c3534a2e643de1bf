use Rattle.std.proofs.Common.{◌≡◌, ◌++◌, take, length}
use Rattle.std.specs.Int.{w32, to_le_bytes}
use Rattle.std.specs.List.{flat_map}
use Rattle.spec_block.specs.Bytes.{position_bytes}
use Rattle.block.proofs.write.append_positions.Given as goal

abbrev pub invariant-loop-position : goal.invariant-loop-position
invariant-loop-position g l = l.out.items ≡ l.fn.out.items ++ (to_le_bytes w32 (length l.positions) ++ flat_map (position_bytes l.version) (take l.position-index l.positions))
