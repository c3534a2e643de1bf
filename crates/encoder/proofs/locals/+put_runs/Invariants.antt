use Rattle.std.proofs.Common.{length}
use Rattle.encoder.proofs.locals.+put_runs.Given as goal

abbrev pub decreases-put_runs : goal.decreases-put_runs
decreases-put_runs g l = length l.locals.now
