use Rattle.serial.proofs.Walking.{left_more}
use Rattle.serial.proofs.read_write_set.leave_all.Goals as goal

pub loop-access-preserved : goal.loop-access-preserved
loop-access-preserved g c = record {
  left = left_more c.args.accesses.now c.loop-access.access-index _ c.args.cells.now.cells c.loop-access.cells.cells c.leave.new.cells.cells c.loop-access-test.true c.loop-access.invariant.left c.in_ok-leave.ensures.left;
  settled = c.leave.ensures.settled;
}
