use Rattle.validator.specs.Trials.{IsFirst}
use Rattle.validator.proofs.Fits.{may_run, told_first}
use Rattle.validator.proofs.verdict_of.Goals as goal

pub verdict_within-requires-clause-trial : goal.verdict_within-requires-clause-trial
verdict_within-requires-clause-trial g c κs within = may_run c.args.trial.now c.requires.trial c.in-Ok.ensures.passed

pub returns-in-Err-Rejected : goal.returns-in-Err-Rejected
returns-in-Err-Rejected g c = told_first c.first_unfit.result c.verdict_on.result (IsFirst c.args.trial.now) c.verdict_on.ensures c.first_unfit.ensures
