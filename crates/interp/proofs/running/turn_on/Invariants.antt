use Rattle.std.proofs.Common.{◌-◌}
use Rattle.interp.specs.Progress.{IsFree}
use Rattle.interp.specs.Machine.{progress}
use Rattle.interp.specs.Run.{seen, IsKept}
use Rattle.interp.specs.Turns.{AreSteps}
use Rattle.interp.proofs.running.turn_on.Given as goal

abbrev pub invariant-turns : goal.invariant-turns
invariant-turns g l = record {
  kept : IsKept l.run;
  free : IsFree l.run.status;
  steps : AreSteps (progress (seen l.fn.run)) (progress (seen l.run));
}

abbrev pub decreases-turns : goal.decreases-turns
decreases-turns g l = l.run.call.now.fuel - l.run.used
