use Rattle.validator.specs.PositionRuns.{AreFound}
use Rattle.validator.proofs.workers.no_runs.Given as goal

abbrev pub invariant-loop-number : goal.invariant-loop-number
invariant-loop-number g l = AreFound l.job l.runs.items
