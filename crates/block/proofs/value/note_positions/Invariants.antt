use Rattle.std.proofs.Common.{take}
use Rattle.std.specs.List.{AllByRecursion}
use Rattle.spec_block.specs.Bytes.{IsPosition}
use Rattle.block.proofs.value.note_positions.Given as goal

abbrev pub invariant-loop-position : goal.invariant-loop-position
invariant-loop-position g l = AllByRecursion IsPosition (take l.position-index l.positions)
