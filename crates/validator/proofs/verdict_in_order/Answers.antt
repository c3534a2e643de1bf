use Rattle.std.proofs.Common.{subst, IfErr, OnOk}
use Rattle.block_judge.specs.Judging.{IfRejected}
use Rattle.validator.specs.Trials.{IsFirst, IsFit}
use Rattle.validator.proofs.Fits.{told_first}
use Rattle.validator.proofs.verdict_in_order.Goals as goal

pub returns-in-Err : goal.returns-in-Err
returns-in-Err g c =
    let first = IsFirst c.args.job.now.trial.now in
    told_first c.in-Err.unfit c.verdict_on.result first c.verdict_on.ensures (subst (λ r. IfErr r (λ u. IfRejected u first)) c.in-Err.is c.judge_and_run-judged.ensures.judged.rejected)

pub end-requires-clause-fit : goal.end-requires-clause-fit
end-requires-clause-fit g c κs within = subst (λ r. OnOk r (IsFit c.args.job.now.trial.now)) c.in-Ok.is c.judge_and_run-judged.ensures.judged.passed
