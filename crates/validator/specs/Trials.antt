-- A block that is judged, and what is found of it.
use Rattle.std.specs.Prelude.{◌≡◌, ◌≤◌, IfErr, OnOk, Result, length}
use Rattle.spec_block.specs.Worlds.{order_of, profiles_of}
use Rattle.spec_block.specs.Schedule.{HaveTurns}
use Rattle.spec_block.specs.Verdicts.{HoldsOf, Verdict}
use Rattle.world.specs.Views.{world_view}
use Rattle.block_judge.specs.declared.reason.JudgeRefusal.{JudgeRefusal}
use Rattle.block_judge.specs.Judging.{IfRejected, IsFirstFrom, NoneFrom}
use Rattle.validator.specs.declared.trial.Trial.{Trial}
use Rattle.validator.specs.Fuel.{IsWithinFuel}

-- the order is the block's, and all is within the limits
pub record IsTrial {A : Type 0} (t : Trial A) : Type 0 where
  pub calls : length t.calls.now ≤ 65535
  pub order : t.order.now ≡ order_of t.block.now
  pub few : length (order_of t.block.now) ≤ 65535
  pub profiles : length (profiles_of t.block.now) ≤ 65535

-- and the calls of its order stay within the block's fuel: none of the reasons 4 to 6 holds
pub record MayRun {A : Type 0} (t : Trial A) : Type 0 where
  pub trial : IsTrial t
  pub within : IsWithinFuel t.calls.now t.order.now t.fuel

-- the verdicts that hold of the block
abbrev pub Holds : {A : Type 0} → Trial A → Verdict → Type 0
Holds t = HoldsOf (world_view t.world.now) t.calls.now t.fuel t.block.now

-- the first of them: its verdict
abbrev pub IsFirst : {A : Type 0} → Trial A → Verdict → Type 0
IsFirst t v = IsFirstFrom (Holds t) 1 v

-- none of the reasons 1 to 7 holds
pub record IsFit {A : Type 0} (t : Trial A) : Type 0 where
  pub none : NoneFrom (Holds t) 1 8
  pub turns : HaveTurns (profiles_of t.block.now)

-- the first of the reasons 2 to 7 that holds, or none
pub record IsJudged {A U : Type 0} (t : Trial A) (judged : Result U JudgeRefusal) : Type 0 where
  pub rejected : IfErr judged (λ unfit. IfRejected unfit (IsFirst t))
  pub passed : OnOk judged (IsFit t)
