use Rattle.validator.specs.Trials.{IsFirst}
use Rattle.validator.proofs.Fits.{may_run, told_first}
use Rattle.validator.proofs.verdict_alone.Goals as goal

pub judge-requires : goal.judge-requires
judge-requires g c = may_run c.args.tried.now c.requires c.in-Ok.ensures.passed

pub end_alone-requires-clause-trial : goal.end_alone-requires-clause-trial
end_alone-requires-clause-trial g c = may_run c.args.tried.now c.requires c.in-Ok.ensures.passed

pub returns-in-Err : goal.returns-in-Err
returns-in-Err g c = told_first c.in-Err.unfit c.verdict_on.result (IsFirst c.args.tried.now) c.verdict_on.ensures c.in-Err.ensures.rejected

pub returns-in-Err-Rejected : goal.returns-in-Err-Rejected
returns-in-Err-Rejected g c = told_first c.first_unfit.result c.verdict_on-in-Err-Rejected.result (IsFirst c.args.tried.now) c.verdict_on-in-Err-Rejected.ensures c.first_unfit.ensures
