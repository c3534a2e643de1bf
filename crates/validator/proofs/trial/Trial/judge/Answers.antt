use Rattle.std.proofs.Common.{◌≡◌, ℕ, List, sym}
use Rattle.std.specs.declared.result.Result.{Result}
use Rattle.std.specs.declared.result.Result.TheVariants.{Ok, Err}
use Rattle.spec_block.specs.Worlds.{Call, World}
use Rattle.spec_block.specs.Verdicts.{HoldsOf}
use Rattle.block_judge.specs.Judging.{NoneFrom}
use Rattle.block_judge.proofs.Stages.{before_turns}
use Rattle.world.specs.Views.{world_view}
use Rattle.validator.proofs.Fits.{judged_before, is_fit}
use Rattle.validator.proofs.trial.Trial.judge.Goals as goal

pub returns-in_err-judge_digests : goal.returns-in_err-judge_digests
returns-in_err-judge_digests g c = judged_before c.args.self.now c.from_residual.result _ c.from_residual.ensures.1 (c.in_err-judge_digests.ensures.rejected c.args.self.now.fuel)

pub returns : goal.returns
returns g c =
    let t = c.args.self.now in
    let world = world_view t.world.now in
    let calls = t.calls.now in
    let may = c.requires in
    let before = before_turns world calls t.fuel t.block.now t.order.now (sym may.trial.order) (c.in_ok-judge_digests.ensures.passed t.fuel) may.within.admissible in
    record {
      rejected = c.judge_turns.ensures.rejected world calls t.fuel before;
      passed = is_fit t c.judge_turns.result before c.judge_turns.ensures.passed c.judge_turns.ensures.turns;
    }
