-- A block that passes the first seven reasons, and what its calls came to.
use Rattle.std.proofs.Common.{◌≡◌, ℕ, ◌<◌, ◌≤◌, List, All, IfErr, IfOk, OnOk, length, sym, ap, subst, ◌∙◌, ⊎_elim, arith}
use Rattle.std.specs.Result.{IsErrAnd}
use Rattle.std.specs.declared.result.Result.{Result}
use Rattle.std.specs.declared.result.Result.TheVariants.{Ok, Err}
use Rattle.std.proofs.lemmas.Bool.{cases_lt}
use Rattle.std.proofs.lemmas.List.{length-map}
use Rattle.spec_ledger.specs.Cells.{Cells}
use Rattle.spec_ledger.specs.Order.{IsAdmissible}
use Rattle.spec_execution.specs.Configuration.{Setting}
use Rattle.spec_execution.specs.Serial.{CallResult, Serial}
use Rattle.spec_block.specs.Worlds.{Call, World, Block, Position, limits, order_of, profiles_of}
use Rattle.spec_block.specs.Bytes.{IsBlock}
use Rattle.spec_block.specs.Schedule.{HaveTurns}
use Rattle.spec_block.specs.Serial.{setting_of}
use Rattle.spec_block.specs.Verdicts.{HoldsOf, Verdict, place, RunOf}
use Rattle.interp.specs.Callee.{setting_view}
use Rattle.block_judge.specs.declared.reason.JudgeRefusal.{JudgeRefusal}
use Rattle.block_judge.specs.declared.reason.JudgeRefusal.TheVariants as unfit
use Rattle.block_judge.specs.Judging.{IfRejected, IsFirstFrom, NoneFrom}
use Rattle.block_judge.proofs.Stages.{admissible_known}
use Rattle.world.specs.Views.{world_view}
use Rattle.validator.specs.declared.job.Job.{Job}
use Rattle.validator.specs.declared.trial.Trial.{Trial}
use Rattle.validator.specs.declared.verdict.Validated.{Validated}
use Rattle.validator.specs.Jobs.{IsJob}
use Rattle.validator.specs.VerdictsFound.{IsToldBy, verdict_view}
use Rattle.validator.specs.Trials.{Holds, IsFirst, IsFit, IsJudged, IsTrial, MayRun}

pub as_many_numbers : (b : Block) (order : List ℕ) → order ≡ order_of b → length b.positions ≡ length order
as_many_numbers b order is = sym (ap (λ (l : List ℕ). length l) is ∙ length-map b.positions (λ (p : Position). p.call))

pub few_numbers : (b : Block) → IsBlock b → length (order_of b) ≤ 65535
few_numbers b block = let many = length-map b.positions (λ (p : Position). p.call) in let few = block.count in omega (arith, many, few)

pub few_profiles : (b : Block) → IsBlock b → length (profiles_of b) ≤ 65535
few_profiles b block = let many = length-map b.positions (λ (p : Position). p.profile) in let few = block.count in omega (arith, many, few)

-- what ran elsewhere is a run of the block
pub run_of : (world : World) (calls : List Call) (b : Block) (setting : Setting) (order : List ℕ) (cells : Cells) (ran : List CallResult) (last : Cells)
    → setting ≡ setting_of b.version world → order ≡ order_of b → cells ≡ world.cells → Serial setting calls order cells ran last → RunOf world calls b ran last
run_of world calls b setting order cells ran last same_setting same_order same_cells run =
    subst (λ (t : Setting × (List ℕ × Cells)). Serial t.0 calls t.1.0 t.1.1 ran last) (λ k. (same_setting k, (same_order k, same_cells k))) run

-- what follows from one fact follows where there is a result
pub if_ok : {X E : Type 0} (r : Result X E) (P Q : X → Type 0) → ((x : X) → P x → Q x) → IfOk r P → IfOk r Q
if_ok (Ok x) P Q f p = f x p
if_ok (Err e) P Q f p = tt

pub if_err : {X E : Type 0} (r : Result X E) (P Q : E → Type 0) → ((e : E) → P e → Q e) → IfErr r P → IfErr r Q
if_err (Ok x) P Q f p = tt
if_err (Err e) P Q f p = f e p

-- a verdict that was found without running a call
pub told_first : {A E : Type 0} (u : JudgeRefusal) (r : Result (Validated A) E) (P : Verdict → Type 0) → IfOk r (λ found. IsToldBy u (verdict_view found.verdict)) → IfRejected u P → IfOk r (λ found. P (verdict_view found.verdict))
told_first u (Err e) P told is = tt
told_first (unfit.Rejected reason) (Ok found) P told is = subst P (sym told) is
told_first unfit.NoMemory (Ok found) P told is = absurd told

module _ {A : Type 0} (t : Trial A) where
  -- the first of the last reasons is the first of all, where none of the others holds
  pub first_of_all : (v : Verdict) → IsFit t → IsFirstFrom (Holds t) 8 v → IsFirst t v
  first_of_all v fit first =
      record {
        holds = first.holds;
        within = (let w = first.within in omega (arith, w));
        none_before = λ w from before. ⊎_elim (λ lt. fit.none w from lt) (λ ge. first.none_before w ge before) (cases_lt (place w) 8);
      }

  -- the calls of an order that may be published stay within the fuel
  pub may_run : IsTrial t → IsAdmissible (limits t.calls.now) t.order.now t.fuel → MayRun t
  may_run trial admissible = record { trial = trial; within = record { known = admissible_known t.calls.now t.fuel t.order.now admissible; admissible = admissible } }

  -- what an earlier judgement found is what is found
  pub judged_before : {U : Type 0} (r : Result U JudgeRefusal) (u : JudgeRefusal) → IsErrAnd r (λ e. e ≡ u) → IfRejected u (IsFirst t) → IsJudged t r
  judged_before (Ok x) u is first = absurd is
  judged_before (Err e) u is first = record { rejected = subst (λ (v : JudgeRefusal). IfRejected v (IsFirst t)) (sym is) first; passed = tt }

  -- and where the turns are right, too, none of the first seven reasons holds
  pub is_fit : {U : Type 0} (r : Result U JudgeRefusal) → NoneFrom (Holds t) 1 7 → OnOk r ((w : World) (calls : List Call) (fuel : ℕ) → NoneFrom (HoldsOf w calls fuel t.block.now) 1 7 → NoneFrom (HoldsOf w calls fuel t.block.now) 1 8)
      → OnOk r (HaveTurns (profiles_of t.block.now)) → OnOk r (IsFit t)
  is_fit (Ok x) before passed turns = record { none = passed (world_view t.world.now) t.calls.now t.fuel before; turns = turns }
  is_fit (Err e) before passed turns = tt

-- the calls of a block in its order
pub is_job : {A P : Type 0} (job : Job A P) → MayRun job.trial.now → setting_view job.ordered.task.version job.ordered.task.contracts.now ≡ setting_of job.trial.now.block.now.version (world_view job.trial.now.world.now)
    → job.ordered.task.calls.now ≡ job.trial.now.calls.now → job.ordered.order.now ≡ job.trial.now.order.now → job.ordered.cells.now.cells ≡ (world_view job.trial.now.world.now).cells → IsJob job
is_job job may setting calls order cells =
    record {
      trial = may;
      setting = setting;
      calls = calls;
      order = order;
      cells = cells;
      known = record {
        known = subst (λ (x : List Call × List ℕ). All (λ n. n < length x.0) x.1) (sym (λ k. (calls k, order k))) may.within.known;
        few = subst (λ (o : List ℕ). length o ≤ 65535) (sym (order ∙ may.trial.order)) may.trial.few;
      };
    }
