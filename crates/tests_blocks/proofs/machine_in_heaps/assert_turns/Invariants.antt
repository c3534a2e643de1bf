use Rattle.interp.specs.Progress.{IsFree}
use Rattle.tests_blocks.proofs.machine_in_heaps.assert_turns.Given as goal

abbrev pub invariant-turns : goal.invariant-turns
invariant-turns g l = IsFree l.machine.status
