use Rattle.std.proofs.Common.{◌≡◌, take}
use Rattle.memory.specs.Pieces.{contents}
use Rattle.memory.proofs.copy_pieces.Given as goal

abbrev pub invariant-loop-piece : goal.invariant-loop-piece
invariant-loop-piece g l = contents l.copies.items ≡ contents (take l.piece-index l.piece-items)
