use Rattle.spec_ledger.specs.declared.Version.TheVariants.{Two}
use Rattle.interp.specs.Callee.{setting_view}
use Rattle.miner.proofs.Ties.{no_run_more}
use Rattle.miner.proofs.outcome.places.Goals as goal

pub loop-preserved : goal.loop-preserved
loop-preserved g c = no_run_more (setting_view Two c.args._contracts.now) c.args._calls.now c.loop.places.items c.push.new.self.items c.in_ok-push.ensures.items c.loop.invariant
