use Rattle.std.proofs.Common.{◌≡◌, drop}
use Rattle.spec_execution.specs.Run.{wrong_argument}
use Rattle.instance.proofs.Finding.{from}
use Rattle.instance.proofs.opening.wrong_arg.Given as goal

abbrev pub invariant-loop-i : goal.invariant-loop-i
invariant-loop-i l = wrong_argument l.fn.params l.fn.args ≡ from l.i (wrong_argument (drop l.i l.fn.params) (drop l.i l.fn.args))
