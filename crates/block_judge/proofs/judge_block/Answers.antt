use Rattle.std.proofs.Common.{◌≡◌, ℕ, ◌<◌, List, All, IfErr, OnOk, length, subst, sym}
use Rattle.std.specs.Result.{IsErrAnd}
use Rattle.std.specs.declared.result.Result.{Result}
use Rattle.std.specs.declared.result.Result.TheVariants.{Ok, Err}
use Rattle.spec_block.specs.Worlds.{Call, World}
use Rattle.spec_block.specs.Verdicts.{Verdict, HoldsOf}
use Rattle.world.specs.Views.{world_view}
use Rattle.block_judge.specs.declared.reason.JudgeRefusal.{JudgeRefusal}
use Rattle.block_judge.specs.Judging.{IfRejected, IsFirstFrom, NoneFrom}
use Rattle.block_judge.proofs.Stages.{admissible_known, after_digests, before_turns, on_ok}
use Rattle.block_judge.proofs.judge_block.Goals as goal

-- an error that is handed on says what it said
same_err : {X : Type 0} (Holds : Verdict → Type 0) (r : Result X JudgeRefusal) (u : JudgeRefusal) → IsErrAnd r (λ e. e ≡ u) → IfRejected u (IsFirstFrom Holds 1) → IfErr r (λ e. IfRejected e (IsFirstFrom Holds 1))
same_err Holds (Ok x) u is p = tt
same_err Holds (Err e) u is p = subst (λ (v : JudgeRefusal). IfRejected v (IsFirstFrom Holds 1)) (sym is) p

pub returns-in_err-judge_digests-clause-rejected : goal.returns-in_err-judge_digests-clause-rejected
returns-in_err-judge_digests-clause-rejected g c =
    same_err (HoldsOf (world_view c.args.world.now) c.args.calls.now c.args.fuel c.args.block.now) c.from_residual.result _ c.from_residual.ensures.1
    (c.in_err-judge_digests.ensures.rejected c.args.fuel)

pub returns-in_err-judge_order-clause-rejected : goal.returns-in_err-judge_order-clause-rejected
returns-in_err-judge_order-clause-rejected g c =
    same_err (HoldsOf (world_view c.args.world.now) c.args.calls.now c.args.fuel c.args.block.now) c.from_residual-in_err-judge_order.result _ c.from_residual-in_err-judge_order.ensures.1
    (after_digests (world_view c.args.world.now) c.args.calls.now c.args.fuel c.args.block.now c.args.order.now (sym c.requires.order) (c.in_ok-judge_digests.ensures.passed c.args.fuel) _ c.in_err-judge_order.ensures.rejected)

pub returns-clause-rejected : goal.returns-clause-rejected
returns-clause-rejected g c =
    c.judge_turns.ensures.rejected (world_view c.args.world.now) c.args.calls.now c.args.fuel
    (before_turns (world_view c.args.world.now) c.args.calls.now c.args.fuel c.args.block.now c.args.order.now (sym c.requires.order) (c.in_ok-judge_digests.ensures.passed c.args.fuel) c.in_ok-judge_order.ensures.passed)

pub returns-clause-passed : goal.returns-clause-passed
returns-clause-passed g c =
    let block = c.args.block.now in
    on_ok c.judge_turns.result ((world : World) (calls : List Call) (fuel : ℕ) → NoneFrom (HoldsOf world calls fuel block) 1 7 → NoneFrom (HoldsOf world calls fuel block) 1 8)
    (NoneFrom (HoldsOf (world_view c.args.world.now) c.args.calls.now c.args.fuel block) 1 8)
    (λ passed. passed (world_view c.args.world.now) c.args.calls.now c.args.fuel
    (before_turns (world_view c.args.world.now) c.args.calls.now c.args.fuel block c.args.order.now (sym c.requires.order) (c.in_ok-judge_digests.ensures.passed c.args.fuel) c.in_ok-judge_order.ensures.passed))
    c.judge_turns.ensures.passed

-- what is known holds whatever comes of the turns
known_too : {X E : Type 0} (r : Result X E) (P : Type 0) → P → OnOk r P
known_too (Ok x) P p = p
known_too (Err e) P p = tt

pub returns-clause-known : goal.returns-clause-known
returns-clause-known g c =
    let calls = c.args.calls.now in
    known_too c.judge_turns.result _ (subst (λ (order : List ℕ). All (λ n. n < length calls) order) c.requires.order (admissible_known calls c.args.fuel c.args.order.now c.in_ok-judge_order.ensures.passed))
