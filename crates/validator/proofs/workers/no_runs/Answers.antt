use Rattle.validator.proofs.Runs.{none_yet}
use Rattle.validator.proofs.workers.no_runs.Goals as goal

pub loop-number-preserved : goal.loop-number-preserved
loop-number-preserved g c = none_yet c.args.job.now c.loop-number.runs.items c.push.new.self.items c.in_ok-push.ensures.items c.loop-number.invariant
