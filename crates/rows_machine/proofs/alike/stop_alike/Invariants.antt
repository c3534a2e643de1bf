use Rattle.interp.specs.Progress.{IsFree}
use Rattle.rows_machine.proofs.alike.stop_alike.Given as goal

abbrev pub invariant-stops : goal.invariant-stops
invariant-stops l = record {
  at_once : IsFree l.at_once.status;
  by_one : IsFree l.by_one.status;
}
