use Rattle.std.proofs.Common.{◌≡◌, take}
use Rattle.std.specs.FinMap as finite
use Rattle.spec_execution.specs.ReadWriteSets.{all_left}
use Rattle.serial.proofs.read_write_set.leave_all.Given as goal

abbrev pub invariant-loop-access : goal.invariant-loop-access
invariant-loop-access g l = record {
  left : l.cells.cells ≡ all_left (take l.access-index l.accesses) l.fn.cells.cells;
  settled : l.cells.unsettled ≡ finite.empty;
}
