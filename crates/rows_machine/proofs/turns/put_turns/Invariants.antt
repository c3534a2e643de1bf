use Rattle.interp.specs.Progress.{IsFree}
use Rattle.rows_machine.proofs.turns.put_turns.Given as goal

abbrev pub invariant-turns : goal.invariant-turns
invariant-turns l = IsFree l.machine.status
