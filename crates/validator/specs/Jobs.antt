-- The calls of a block, in their order over the cells before it.
use Rattle.std.specs.Prelude.{◌≡◌}
use Rattle.spec_block.specs.Serial.{setting_of}
use Rattle.interp.specs.Callee.{setting_view}
use Rattle.world.specs.Views.{world_view}
use Rattle.in_order.specs.Progress.{IsKnown}
use Rattle.validator.specs.declared.job.Job.{Job}
use Rattle.validator.specs.Trials.{MayRun}

-- the calls that are run are the block's, whose limits stay within the fuel that it may have (`MayRun`)
pub record IsJob {A P : Type 0} (job : Job A P) : Type 0 where
  pub trial : MayRun job.trial.now
  pub setting : setting_view job.ordered.task.version job.ordered.task.contracts.now ≡ setting_of job.trial.now.block.now.version (world_view job.trial.now.world.now)
  pub calls : job.ordered.task.calls.now ≡ job.trial.now.calls.now
  pub order : job.ordered.order.now ≡ job.trial.now.order.now
  pub cells : job.ordered.cells.now.cells ≡ (world_view job.trial.now.world.now).cells
  pub known : IsKnown job.ordered
