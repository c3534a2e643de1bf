use Rattle.validator.specs.Trials.{IsFirst}
use Rattle.validator.proofs.Fits.{told_first}
use Rattle.validator.proofs.verdict_watched.Goals as goal

pub returns-in-Err : goal.returns-in-Err
returns-in-Err g c = told_first c.in-Err.unfit c.verdict_on.result (IsFirst c.args.job.now.trial.now) c.verdict_on.ensures c.in-Err.ensures.rejected
