use Rattle.std.proofs.Common.{take}
use Rattle.std.specs.List.{AllByRecursion}
use Rattle.wblock_blocks.specs.Notes.{HasReturned}
use Rattle.wblock_blocks.proofs.note.have_returned.Given as goal

abbrev pub invariant-loop-position : goal.invariant-loop-position
invariant-loop-position l = AllByRecursion HasReturned (take l.position-index l.positions)
