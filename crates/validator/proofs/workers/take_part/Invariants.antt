use Rattle.std.proofs.Common.{length}
use Rattle.validator.specs.PositionRuns.{AreFound, AreMade}
use Rattle.validator.proofs.workers.take_part.Given as goal

abbrev pub invariant-loop-made : goal.invariant-loop-made
invariant-loop-made g l = record { runs : AreFound l.job l.runs.items; part : AreMade l.job l.part.items }

abbrev pub decreases-loop-made : goal.decreases-loop-made
decreases-loop-made g l = length l.part.items
