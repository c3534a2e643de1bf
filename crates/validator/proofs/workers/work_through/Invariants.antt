use Rattle.validator.specs.PositionRuns.{AreMade}
use Rattle.validator.proofs.workers.work_through.Given as goal

abbrev pub invariant-loop : goal.invariant-loop
invariant-loop g l = AreMade l.job l.made.items
