-- What a verdict of the code stands for, and what it is found by.
use Rattle.std.specs.Prelude.{◌≡◌, ◌↔◌, ℕ, List, IfNone, IfSome, IsTrue, length}
use Rattle.sha2.specs.Sha256.{sha256}
use Rattle.spec_ledger.specs.Cells.{Cells}
use Rattle.spec_ledger.specs.declared.Receipt.{Receipt}
use Rattle.spec_ledger.specs.Modes.{Modes}
use Rattle.serial.specs.Positions.{results_of}
use Rattle.serial.specs.OrderOutcomes.{fuel_of_receipts}
use Rattle.spec_block.specs.Worlds.{Block, Call, World}
use Rattle.spec_block.specs.Bytes.{world_bytes}
use Rattle.spec_block.specs.Blocks.{world_after}
use Rattle.spec_block.specs.Verdicts.{HoldsOf, IsLeast, IsOther, RunOf, Verdict, Accept}
use Rattle.block_judge.specs.declared.reason.JudgeRefusal.{JudgeRefusal}
use Rattle.block_judge.specs.declared.reason.JudgeRefusal.TheVariants as unfit
use Rattle.block_judge.specs.Judging.{IsFirstFrom, told}
use Rattle.world.specs.Views.{world_view}
use Rattle.validator.specs.declared.compare.Compared.{Compared}
use Rattle.validator.specs.declared.verdict.Verdict as code
use Rattle.validator.specs.declared.verdict.Verdict.TheVariants as verdict

abbrev pub verdict_view : {A : Type 0} → code.Verdict A → Verdict
verdict_view (verdict.Accept w) = Accept (world_view w)
verdict_view (verdict.Reject r) = told r

-- a verdict that was found without running a call; there is none where memory was refused
abbrev pub IsToldBy : JudgeRefusal → Verdict → Type 0
IsToldBy (unfit.Rejected r) v = v ≡ told r
IsToldBy unfit.NoMemory v = ⊥

-- how a block stands to calls that came to these receipts and locks
pub record IsCompared (block : Block) (receipts : List Receipt) (touched : List Modes) (c : Compared) : Type 0 where
  pub other : IfSome c.deviating (IsLeast (IsOther block.positions (results_of receipts touched)))
  pub same : IfNone c.deviating ((position : ℕ) → ¬ (IsOther block.positions (results_of receipts touched) position))
  pub total : IsTrue c.is_total ↔ (block.fuel ≡ fuel_of_receipts receipts)

-- a serial run of a block over a world came to these receipts and locks, and left the world `next`; and this is found of them
pub record IsEnd (world : World) (calls : List Call) (block : Block) (receipts : List Receipt) (touched : List Modes) (last : Cells) (c : Compared) (digest : List ℕ) (next : World) : Type 0 where
  pub run : RunOf world calls block (results_of receipts touched) last
  pub many : length receipts ≡ length touched
  pub compared : IsCompared block receipts touched c
  pub digest_is : digest ≡ sha256 (world_bytes next)
  pub next_is : next ≡ world_after world last

-- whatever the run was of which that was found, the verdict is the first of the last two reasons that holds, or else accepts
abbrev pub Concludes : Block → Compared → (digest : List ℕ) → (next : World) → Verdict → Type 0
Concludes block c digest next verdict =
    (world : World) (calls : List Call) (fuel : ℕ) (receipts : List Receipt) (touched : List Modes) (last : Cells) →
    IsEnd world calls block receipts touched last c digest next → IsFirstFrom (HoldsOf world calls fuel block) 8 verdict
