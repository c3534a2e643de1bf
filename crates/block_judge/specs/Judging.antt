-- What is found of a block before its calls are run.
use Rattle.std.specs.Prelude.{◌≡◌, ℕ, ◌<◌, ◌≤◌, List, All, Option, Some, None, length}
use Rattle.spec_block.specs.Worlds.{Call, World, Block, order_of, profiles_of}
use Rattle.spec_block.specs.Bytes.{SpellsBlock}
use Rattle.spec_block.specs.Schedule.{HaveTurns}
use Rattle.spec_block.specs.Verdicts.{Verdict, Malformed, WrongWorld, WrongCalls, BadOrder, OverBudget, RoomLeft, BadTurns, Deviates, WrongEnd, place, HoldsOf, IsVerdictOf}
use Rattle.block_judge.specs.declared.reason.Reason.{Reason}
use Rattle.block_judge.specs.declared.reason.Reason.TheVariants as reason
use Rattle.block_judge.specs.declared.reason.JudgeRefusal.{JudgeRefusal}
use Rattle.block_judge.specs.declared.reason.JudgeRefusal.TheVariants as unfit

-- the verdict that a reason tells
abbrev pub told : Reason → Verdict
told reason.Malformed = Malformed
told reason.WrongWorld = WrongWorld
told reason.WrongCalls = WrongCalls
told (reason.BadOrder position) = BadOrder position
told reason.OverBudget = OverBudget
told (reason.RoomLeft call) = RoomLeft call
told (reason.BadTurns position) = BadTurns position
told (reason.Deviates position) = Deviates position
told reason.WrongEnd = WrongEnd

-- the position or call that a verdict speaks of
abbrev pub place_in : Verdict → Option ℕ
place_in (BadOrder position) = Some position
place_in (RoomLeft call) = Some call
place_in (BadTurns position) = Some position
place_in (Deviates position) = Some position
place_in _ = None

-- what is said of the verdict, where there is one
abbrev pub IfRejected : JudgeRefusal → (Verdict → Type 0) → Type 0
IfRejected (unfit.Rejected r) P = P (told r)
IfRejected unfit.NoMemory P = Unit {0}

-- no verdict from this place on and before that one holds
abbrev pub NoneFrom : (Verdict → Type 0) → ℕ → ℕ → Type 0
NoneFrom P from before = (v : Verdict) → from ≤ place v → place v < before → ¬ (P v)

-- the first from this place on that holds
pub record IsFirstFrom (P : Verdict → Type 0) (from : ℕ) (v : Verdict) : Type 0 where
  pub holds : P v
  pub within : from ≤ place v
  pub none_before : NoneFrom P from (place v)

-- the first of the reasons 4 to 6, which the order and the limits alone bring, whatever else a block in this order says
pub record IsReasonOf (calls : List Call) (order : List ℕ) (fuel : ℕ) (v : Verdict) : Type 0 where
  pub of_order : place v < 7
  pub first : (world : World) (block : Block) → order_of block ≡ order → IsFirstFrom (HoldsOf world calls fuel block) 4 v

-- the bytes spell the block, and none of the first seven reasons holds of it
pub record Passes (world : World) (calls : List Call) (fuel : ℕ) (bytes : List ℕ) (block : Block) : Type 0 where
  pub spelled : SpellsBlock bytes block
  pub none_holds : (v : Verdict) → place v < 8 → ¬ (HoldsOf world calls fuel block v)
  pub known : All (λ n. n < length calls) (order_of block)
  pub turns : HaveTurns (profiles_of block)

-- the first that holds of the block which the bytes spell is their verdict
abbrev pub FirstIsVerdict : Type 0
FirstIsVerdict =
    (world : World) (calls : List Call) (fuel : ℕ) (bytes : List ℕ) (block : Block) (v : Verdict) →
    SpellsBlock bytes block → IsFirstFrom (HoldsOf world calls fuel block) 1 v → IsVerdictOf world calls fuel bytes v
