use Rattle.std.proofs.Common.{length}
use Rattle.validator.specs.PositionRuns.{AreFound, ArePartsMade}
use Rattle.validator.proofs.workers.take_in.Given as goal

abbrev pub invariant-loop-part : goal.invariant-loop-part
invariant-loop-part g l = record { runs : AreFound l.job l.runs.items; part : ArePartsMade l.job l.parts.items }

abbrev pub decreases-loop-part : goal.decreases-loop-part
decreases-loop-part g l = length l.parts.items
