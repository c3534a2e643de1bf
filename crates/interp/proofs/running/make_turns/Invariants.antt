use Rattle.std.proofs.Common.{◌≡◌, ◌-◌}
use Rattle.interp.specs.declared.turns.Status.TheVariants as status
use Rattle.interp.specs.Machine.{progress}
use Rattle.interp.specs.Run.{seen, IsKept}
use Rattle.interp.specs.Turns.{AreSteps}
use Rattle.interp.proofs.running.make_turns.Given as goal

abbrev pub invariant-turns : goal.invariant-turns
invariant-turns g l = record {
  kept : IsKept l.run;
  running : l.run.status ≡ status.Running;
  steps : AreSteps (progress (seen l.fn.run)) (progress (seen l.run));
}

abbrev pub decreases-turns : goal.decreases-turns
decreases-turns g l = l.run.call.now.fuel - l.run.used
