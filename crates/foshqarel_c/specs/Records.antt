-- Cells, receipts and changes as C has them.
use Rattle.std.specs.Prelude.{◌≡◌, ℕ, ℤ, zero, suc, List, Option, Some, None, map, pos}
use Rattle.std.specs.FinMap.{entries, get}
use Rattle.wtypes.specs.declared.Value.TheVariants.{I32, I64}
use Rattle.spec_ledger.specs.declared.Kind.{Kind}
use Rattle.spec_ledger.specs.declared.Kind.TheVariants.{Map, Counter}
use Rattle.spec_ledger.specs.declared.Lock.{Lock}
use Rattle.spec_ledger.specs.declared.Outcome.{Outcome}
use Rattle.spec_ledger.specs.declared.Outcome.TheVariants.{Returned, Trapped, OutOfFuel, Rejected}
use Rattle.spec_ledger.specs.declared.Receipt.{Receipt}
use Rattle.spec_ledger.specs.Cells.{Cells}
use Rattle.spec_block.specs.Worlds.{Position, Block}
use Rattle.spec_block.specs.Bytes.{SpellsBlock, kind_code, mode_code, trap_code}
use Rattle.embed.specs.Given.{AreCellsOf, Runs}
use Rattle.embed.specs.declared.calling.Change.{Change}
use Rattle.foshqarel_c.specs.declared.cells.CellRecord.{CellRecord}
use Rattle.foshqarel_c.specs.declared.receipts.ReceiptRecord.{ReceiptRecord}
use Rattle.foshqarel_c.specs.declared.changes.ChangeRecord.{ChangeRecord}

-- ---- cells

abbrev pub cell_record : Lock × ℕ → CellRecord
cell_record cell = record { key = cell.0.key; number = cell.1; contract = cell.0.contract; kind = kind_code cell.0.kind }

-- the cells of the world that the bytes spell
pub record AreRecords (world : List ℕ) (records : List CellRecord) : Type 0 where
  pub cells : Cells
  pub of_world : AreCellsOf world cells
  pub are : records ≡ map cell_record (entries cells)

-- the kind of this number
abbrev pub kind_of : ℕ → Option Kind
kind_of zero = Some Map
kind_of (suc zero) = Some Counter
kind_of (suc (suc n)) = None

-- what a record that names a cell is then: with the number that the cell holds, where there is one
abbrev pub filled : CellRecord → Option ℕ → CellRecord
filled c None = c
filled c (Some number) = record { key = c.key; number = number; contract = c.contract; kind = c.kind }

abbrev pub count_of : Option ℕ → ℕ
count_of None = 0
count_of (Some number) = 1

-- what the cells have at the lock that a record names
abbrev pub found_at : Cells → CellRecord → Option Kind → Option ℕ
found_at cells c None = None
found_at cells c (Some kind) = get cells (record { contract = c.contract; kind = kind; key = c.key })

-- what the world that the bytes spell has at the lock that a record names
pub record IsFoundIn (world : List ℕ) (cell : CellRecord) (found : Option ℕ) : Type 0 where
  pub cells : Cells
  pub of_world : AreCellsOf world cells
  pub found_is : found ≡ found_at cells cell (kind_of cell.kind)

-- the cell that a record names was looked up, and so many were found
pub record IsLookedUp (world : List ℕ) (old new : CellRecord) (count : ℕ) : Type 0 where
  pub cells : Cells
  pub of_world : AreCellsOf world cells
  pub new_is : new ≡ filled old (found_at cells old (kind_of old.kind))
  pub count_is : count ≡ count_of (found_at cells old (kind_of old.kind))

-- ---- receipts

abbrev pub outcome_number : Outcome → ℕ
outcome_number (Returned None) = 0
outcome_number (Returned (Some (I32 n))) = 1
outcome_number (Returned (Some (I64 n))) = 2
outcome_number (Trapped code) = 3
outcome_number OutOfFuel = 4
outcome_number (Rejected code) = 5

abbrev pub value_of : Outcome → ℤ
value_of (Returned (Some (I32 n))) = n
value_of (Returned (Some (I64 n))) = n
value_of _ = pos 0

abbrev pub code_of : Outcome → ℕ
code_of (Trapped code) = trap_code code
code_of (Rejected code) = code
code_of _ = 0

abbrev pub receipt_record : (call : ℕ) → Receipt → ReceiptRecord
receipt_record call r =
    record { fuel = r.used; value = value_of r.outcome; call = call; asks = r.asks; outcome = outcome_number r.outcome; code = code_of r.outcome }

abbrev pub position_record : Position → ReceiptRecord
position_record p = receipt_record p.call p.receipt

-- the receipts of the block that the bytes spell
pub record AreReceiptsOf (bytes : List ℕ) (records : List ReceiptRecord) : Type 0 where
  pub block : Block
  pub spelled : SpellsBlock bytes block
  pub are : records ≡ map position_record block.positions

-- ---- changes

abbrev pub number_in : Option ℕ → ℕ
number_in None = 0
number_in (Some n) = n

-- 1 where the cell was there, and 2 where it is there then, added
abbrev pub presence : (before later : Option ℕ) → ℕ
presence None None = 0
presence (Some m) None = 1
presence None (Some n) = 2
presence (Some m) (Some n) = 3

abbrev pub change_record : Change → ChangeRecord
change_record c =
    record {
      key = c.lock.key;
      before = number_in c.before;
      later = number_in c.later;
      contract = c.lock.contract;
      kind = kind_code c.lock.kind;
      mode = mode_code c.mode;
      presence = presence c.before c.later;
    }

-- the call of this number of the text comes to this over the world
pub record AreChangesOf (world text : List ℕ) (number : ℕ) (receipt : ReceiptRecord) (records : List ChangeRecord) : Type 0 where
  pub ran : Receipt
  pub these : List Change
  pub runs : Runs world text number ran these
  pub receipt_is : receipt ≡ receipt_record number ran
  pub are : records ≡ map change_record these
