use Rattle.std.proofs.Common.{◌≤◌, ◌<◌, ◌^◌}
use Rattle.interp.specs.Progress.{IsSameCall, IsFree, left_of}
use Rattle.serial.proofs.storage_loop.run_on.Given as goal

abbrev pub invariant-operations : goal.invariant-operations
invariant-operations g l = record {
  same : IsSameCall l.fn.machine l.machine;
  free : IsFree l.machine.status;
  limit : l.machine.call.fuel < 2 ^ 64;
  asked : l.asked ≤ l.machine.used;
  led : g.S.Storage.led l.fn.storage l.machine.trace l.storage;
}

abbrev pub decreases-operations : goal.decreases-operations
decreases-operations g l = left_of l.machine
