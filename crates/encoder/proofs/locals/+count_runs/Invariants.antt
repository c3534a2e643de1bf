use Rattle.std.proofs.Common.{length}
use Rattle.encoder.proofs.locals.+count_runs.Given as goal

abbrev pub decreases-count_runs : goal.decreases-count_runs
decreases-count_runs l = length l.locals.now
