use Rattle.interp.specs.Progress.{IsFree}
use Rattle.rows_machine.proofs.machines.turn_on_by_one.Given as goal

abbrev pub invariant-turns : goal.invariant-turns
invariant-turns l = IsFree l.machine.status
