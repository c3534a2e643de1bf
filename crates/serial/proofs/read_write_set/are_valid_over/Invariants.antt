use Rattle.std.proofs.Common.{All, take}
use Rattle.spec_execution.specs.ReadWriteSets.{Agrees}
use Rattle.serial.proofs.read_write_set.are_valid_over.Given as goal

abbrev pub invariant-loop-access : goal.invariant-loop-access
invariant-loop-access g l = All (Agrees l.cells.cells) (take l.access-index l.accesses)
