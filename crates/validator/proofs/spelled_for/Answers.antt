use Rattle.spec_block.specs.Verdicts.{IsVerdictOf}
use Rattle.spec_block.specs.Worlds.{Call, World}
use Rattle.std.proofs.Common.{ℕ, List}
use Rattle.world.specs.Views.{world_view}
use Rattle.block_judge.specs.Judging.{IfRejected}
use Rattle.validator.proofs.Fits.{if_err}
use Rattle.validator.proofs.spelled_for.Goals as goal

pub returns-clause-rejected : goal.returns-clause-rejected
returns-clause-rejected g c =
    let bytes = c.args.bytes.now in
    if_err c.spelled_by.result (λ unfit. (world : World) (calls : List Call) (fuel : ℕ) → IfRejected unfit (IsVerdictOf world calls fuel bytes))
    (λ unfit. IfRejected unfit (IsVerdictOf (world_view c.args._world.now) c.args._calls.now c.args._fuel bytes))
    (λ unfit all. all (world_view c.args._world.now) c.args._calls.now c.args._fuel) c.spelled_by.ensures.rejected
