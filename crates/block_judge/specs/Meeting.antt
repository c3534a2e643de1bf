-- The cells that a call of a block meets.
use Rattle.std.specs.Prelude.{◌≡◌, ℕ, ◌-◌, ◌^◌, List, Option, Some, None, min, take, slice_get, Contains}
use Rattle.std.specs.FinMap.{entries}
use Rattle.spec_ledger.specs.declared.Version.{Version}
use Rattle.spec_ledger.specs.Cells.{Cells}
use Rattle.spec_ledger.specs.Modes.{Modes}
use Rattle.spec_ledger.specs.Order.{limits_of}
use Rattle.spec_execution.specs.Exec.{Executes}
use Rattle.spec_execution.specs.Serial.{CallResult}
use Rattle.spec_block.specs.Worlds.{Call, World, Position, Block, order_of, limits, held_in}
use Rattle.spec_block.specs.Serial.{Serial, setting_of}
use Rattle.spec_block.specs.Bytes.{SpellsBlock}
use Rattle.spec_block.specs.Verdicts.{Verdict, Accept, IsVerdictOf}
use Rattle.block_judge.specs.Judging.{Passes}

-- the least fuel with which the calls of a block are within it, as far as 64 bits tell it
abbrev pub least_fuel : List Call → Block → ℕ
least_fuel calls b = min (limits_of (limits calls) (order_of b)) (2 ^ 64 - 1)

-- the verdict on the bytes, with the least fuel of the block that they spell
pub record IsVerdictAtLeast (world : World) (calls : List Call) (bytes : List ℕ) (verdict : Verdict) : Type 0 where
  pub fuel : ℕ
  pub least : (b : Block) → SpellsBlock bytes b → fuel ≡ least_fuel calls b
  pub is : IsVerdictOf world calls fuel bytes verdict

-- the verdict with the fuel that is given, else with the least
abbrev pub IsVerdictWith : World → List Call → Option ℕ → List ℕ → Verdict → Type 0
IsVerdictWith world calls (Some fuel) bytes verdict = IsVerdictOf world calls fuel bytes verdict
IsVerdictWith world calls None bytes verdict = IsVerdictAtLeast world calls bytes verdict

-- the fuel that is given, else the least
abbrev pub fuel_for : Option ℕ → List Call → Block → ℕ
fuel_for (Some fuel) calls b = fuel
fuel_for None calls b = least_fuel calls b

-- the bytes spell the block, and with that fuel none of the first seven reasons holds of it
abbrev pub IsJudged : World → List Call → Option ℕ → List ℕ → Block → Type 0
IsJudged world calls given bytes b = Passes world calls (fuel_for given calls b) bytes b

-- at its position in the block the call of this number meets these cells: those that the calls before it leave, one after another in the block's version
pub record Meets (world : World) (calls : List Call) (given : Option ℕ) (bytes : List ℕ) (number : ℕ) (version : Version) (cells : Cells) : Type 0 where
  pub block : Block
  pub judged : IsJudged world calls given bytes block
  pub version_is : version ≡ block.version
  pub position : ℕ
  pub stands : slice_get (order_of block) position ≡ Some number
  pub ran : List CallResult
  pub serial : Serial block.version world calls (take position (order_of block)) world.cells ran cells

-- the call of this number does not stand in the block
pub record IsAbsent (world : World) (calls : List Call) (given : Option ℕ) (bytes : List ℕ) (number : ℕ) : Type 0 where
  pub block : Block
  pub judged : IsJudged world calls given bytes block
  pub absent : ¬ (Contains (order_of block) number)

-- what the block says of the call of this number is what its execution over these cells comes to
pub record IsToldOf (world : World) (calls : List Call) (bytes : List ℕ) (number : ℕ) (version : Version) (cells : Cells) : Type 0 where
  pub block : Block
  pub spelled : SpellsBlock bytes block
  pub place : ℕ
  pub position : Position
  pub at : slice_get block.positions place ≡ Some position
  pub number_is : position.call ≡ number
  pub call : Call
  pub listed : slice_get calls number ≡ Some call
  pub later : Cells
  pub locks : Modes
  pub executes : Executes (setting_of version world) call cells later position.receipt locks
  pub held : held_in position.profile ≡ entries locks

-- where a block is accepted, the run over the cells that a call of it meets is the one of which its receipt and its profile tell
abbrev pub TellsOfTheRun : Type 0
TellsOfTheRun =
    (world : World) (calls : List Call) (fuel : ℕ) (given : Option ℕ) (bytes : List ℕ) (next : World) (number : ℕ) (version : Version) (cells : Cells) →
    IsVerdictOf world calls fuel bytes (Accept next) → Meets world calls given bytes number version cells → IsToldOf world calls bytes number version cells

-- with this fuel the block that the bytes spell is judged
abbrev pub IsFuelFor : List Call → Option ℕ → List ℕ → ℕ → Type 0
IsFuelFor calls (Some given) bytes fuel = fuel ≡ given
IsFuelFor calls None bytes fuel = (b : Block) → SpellsBlock bytes b → fuel ≡ least_fuel calls b
