-- What is given of what was passed.
use Rattle.std.specs.Prelude.{◌≡◌, ℕ, List, [], ◌∷◌, Some, None, map, slice_get}
use Rattle.std.specs.FinMap.{entries, get}
use Rattle.sha2.specs.Sha256.{sha256}
use Rattle.spec_ledger.specs.declared.Version.TheVariants.{Two}
use Rattle.spec_ledger.specs.declared.Lock.{Lock}
use Rattle.spec_ledger.specs.declared.Mode.{Mode}
use Rattle.spec_ledger.specs.declared.Receipt.{Receipt}
use Rattle.spec_ledger.specs.Cells.{Cells}
use Rattle.spec_ledger.specs.Modes.{Modes}
use Rattle.spec_ledger.specs.Order.{first_fit}
use Rattle.spec_block.specs.Worlds.{World, Call, Block, Contract, limits, order_of}
use Rattle.spec_block.specs.Bytes.{world_bytes, block_bytes}
use Rattle.spec_block.specs.Headline.{Headline}
use Rattle.spec_block.specs.Serial.{Executed}
use Rattle.spec_block.specs.Verdicts.{Accept, IsVerdictOf, Verdict}
use Rattle.wblock_line.specs.Modules.{IsContractOf}
use Rattle.wblock_modules.specs.Deploys.{IsEmpty, extended}
use Rattle.embed.specs.Refusals.{HasWorld, HasCalls}
use Rattle.embed.specs.declared.calling.Change.{Change}

-- the bytes of the world of nothing
pub record IsNothing (bytes : List ℕ) : Type 0 where
  pub world : World
  pub empty : IsEmpty world
  pub is : bytes ≡ world_bytes world

-- the bytes of the world with the contract that the module is behind its own
pub record IsExtension (world code bytes : List ℕ) : Type 0 where
  pub contract : Contract
  pub is_contract : IsContractOf code contract.tree contract.hosts
  pub has : HasWorld world (λ w. bytes ≡ world_bytes (extended w (contract ∷ [])))

abbrev pub IsDigestOf : (world : List ℕ) → (digest : List ℕ) → Type 0
IsDigestOf world digest = HasWorld world (λ w. digest ≡ sha256 (world_bytes w))

abbrev pub AreCellsOf : (world : List ℕ) → Cells → Type 0
AreCellsOf world cells = HasWorld world (λ w. cells ≡ w.cells)

-- the block of the calls of the list, in the list's order, and the world after it
pub record IsMined (w : World) (cs : List Call) (fuel : ℕ) (block next : List ℕ) : Type 0 where
  pub mined : Block
  pub after : World
  pub headline : Headline w cs fuel mined after
  pub order : order_of mined ≡ first_fit (limits cs) fuel
  pub version : mined.version ≡ Two
  pub block_is : block ≡ block_bytes mined
  pub next_is : next ≡ world_bytes after

abbrev pub Mines : (world text : List ℕ) → (fuel : ℕ) → (block next : List ℕ) → Type 0
Mines world text fuel block next = HasWorld world (λ w. HasCalls text (λ cs. IsMined w cs fuel block next))

-- the verdict accepts, and these are the bytes of the world that it leaves
abbrev pub Leaves : Verdict → (next : List ℕ) → Type 0
Leaves (Accept after) next = next ≡ world_bytes after
Leaves _ next = ⊥

-- the block is accepted, and these are the bytes of the world after it
pub record IsAccepted (w : World) (cs : List Call) (fuel : ℕ) (block next : List ℕ) : Type 0 where
  pub after : World
  pub verdict : IsVerdictOf w cs fuel block (Accept after)
  pub next_is : next ≡ world_bytes after

abbrev pub Accepts : (world text : List ℕ) → (fuel : ℕ) → (block next : List ℕ) → Type 0
Accepts world text fuel block next = HasWorld world (λ w. HasCalls text (λ cs. IsAccepted w cs fuel block next))

-- ---- a call alone

-- the cell at a lock that a call asked for, before and after it
abbrev pub change_at : (before later : Cells) → Lock × Mode → Change
change_at before later held = record { lock = held.0; mode = held.1; before = get before held.0; later = get later held.0 }

abbrev pub changes : (before later : Cells) → Modes → List Change
changes before later touched = map (change_at before later) (entries touched)

-- the call is executed over the cells of the world, by the rules of version 2, and comes to this
pub record IsEffect (w : World) (call : Call) (receipt : Receipt) (these : List Change) : Type 0 where
  pub touched : Modes
  pub later : Cells
  pub executed : Executed Two w call w.cells (record { receipt = receipt; touched = touched }) later
  pub changes_are : these ≡ changes w.cells later touched
  -- a cell at another lock is not changed
  pub others : (lock : Lock) → get touched lock ≡ None → get later lock ≡ get w.cells lock

-- so does the call of this number
pub record IsEffectOf (w : World) (number : ℕ) (receipt : Receipt) (these : List Change) (cs : List Call) : Type 0 where
  pub call : Call
  pub there : slice_get cs number ≡ Some call
  pub effect : IsEffect w call receipt these

abbrev pub Runs : (world text : List ℕ) → (number : ℕ) → Receipt → List Change → Type 0
Runs world text number receipt these = HasWorld world (λ w. HasCalls text (IsEffectOf w number receipt these))
