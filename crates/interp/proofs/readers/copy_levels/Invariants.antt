use Rattle.std.proofs.Common.{take}
use Rattle.interp.specs.Run.{AreCopiesOf}
use Rattle.interp.proofs.readers.copy_levels.Given as goal

abbrev pub invariant-loop-level : goal.invariant-loop-level
invariant-loop-level g l = AreCopiesOf (take l.level-index l.outer) l.copies.items
