use Rattle.interp.specs.Progress.{IsFree}
use Rattle.rows_machine.proofs.machines.play.Given as goal

abbrev pub invariant-turns : goal.invariant-turns
invariant-turns l = IsFree l.machine.status
