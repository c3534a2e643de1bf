use Rattle.std.proofs.Common.{arith}
use Rattle.spec_ledger.specs.declared.Version.TheVariants.{Two}
use Rattle.interp.specs.Callee.{setting_view}
use Rattle.miner.proofs.Jobs.{job_kept}
use Rattle.miner.proofs.outcome.publish_runs.Goals as goal

pub returns-clause-job : goal.returns-clause-job
returns-clause-job g c =
    job_kept (setting_view Two c.args.contracts.now) c.args.calls.now c.args.cells.now.cells c.args.block_fuel _ _ c.in_ok-publishing-2.ensures.job c.in_ok-take_alone.ensures.same

pub returns-clause-taken : goal.returns-clause-taken
returns-clause-taken g c = omega (arith, c.in_ok-publishing-2.ensures.taken, c.in_ok-take_alone.ensures.order)
