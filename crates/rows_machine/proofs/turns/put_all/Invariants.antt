use Rattle.interp.specs.Progress.{IsFree}
use Rattle.rows_machine.proofs.turns.put_all.Given as goal

abbrev pub invariant-asks : goal.invariant-asks
invariant-asks l = IsFree l.machine.status
