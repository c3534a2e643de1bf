use Rattle.std.proofs.Common.{sym, arith}
use Rattle.block_judge.specs.Judging.{told}
use Rattle.block_judge.proofs.Stages.{first_joined}
use Rattle.world.specs.Views.{world_view}
use Rattle.validator.specs.Trials.{Holds}
use Rattle.validator.proofs.first_unfit.Goals as goal

pub returns-in-Ok : goal.returns-in-Ok
returns-in-Ok g c =
    let t = c.args.trial.now in
    first_joined (Holds t) 1 4 (told c.args.reason) (omega arith) (c.in-Ok.ensures.passed t.fuel) (c.requires.reason.first (world_view t.world.now) t.block.now (sym c.requires.trial.order))

pub returns-in-Err : goal.returns-in-Err
returns-in-Err g c = c.in-Err.ensures.rejected c.args.trial.now.fuel
