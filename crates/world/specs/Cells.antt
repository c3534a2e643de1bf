-- Reading cells from front to back.
use Rattle.std.specs.Prelude.{◌≡◌, ℕ, ◌<◌, ◌^◌, Bool, true, false, List, [], ◌∷◌, ◌++◌, length, Option, Some, None, Ok, Err, ◌==◌, nat_lt, if◌then◌else◌}
use Rattle.std.specs.Int.{w32, w64}
use Rattle.std.specs.List.{flat_map, filter, AllByRecursion}
use Rattle.std.specs.FinMap.{entries}
use Rattle.std.specs.Ordering.{is_lt}
use Rattle.spec_ledger.specs.declared.Kind.{Kind}
use Rattle.spec_ledger.specs.declared.Kind.TheVariants.{Map, Counter}
use Rattle.spec_ledger.specs.declared.Lock.{Lock}
use Rattle.spec_ledger.specs.Cells.{lock_cmp, Cells}
use Rattle.spec_block.specs.Bytes.{u64_bytes, cell_bytes, cells_bytes, is_map, is_counter, IsCell}
use Rattle.records.specs.declared.fault.Fault.TheVariants.{Malformed}
use Rattle.records.specs.Reading.{Read, ◌>>=◌, number_at, after_count}
use Rattle.records.specs.Exact.{Follow}

abbrev pub Cell : Type 0
Cell = Lock × ℕ

-- whether the contract is below that of the cell before, if there is one
abbrev pub falls : Option Cell → ℕ → Bool
falls None contract = false
falls (Some before) contract = nat_lt contract before.0.contract

-- whether a lock is above that of the cell before, if there is one
abbrev pub is_after : Option Cell → Lock → Bool
is_after None lock = true
is_after (Some before) lock = is_lt (lock_cmp before.0 lock)

-- a counter at 0 has no cell
abbrev pub is_missing : Kind → ℕ → Bool
is_missing Map value = false
is_missing Counter value = value == 0

unfoldable pub contract_at : Option Cell → List ℕ → Read ℕ
contract_at before bytes = do
  contract ← number_at w32 bytes
  if falls before contract.0 then Err (Malformed (length bytes)) else Ok contract

-- where the contract does not fall and the lock does not rise, the key is at fault
unfoldable pub lock_at : Kind → Option Cell → ℕ → List ℕ → Read Lock
lock_at kind before contract bytes = do
  key ← number_at w64 bytes
  if is_after before (record { contract = contract; kind = kind; key = key.0 }) then Ok (record { contract = contract; kind = kind; key = key.0 }, key.1) else Err (Malformed (length bytes))

unfoldable pub value_at : Kind → List ℕ → Read ℕ
value_at kind bytes = do
  value ← number_at w64 bytes
  if is_missing kind value.0 then Err (Malformed (length bytes)) else Ok value

unfoldable pub cell_at : Kind → Option Cell → List ℕ → Read Cell
cell_at kind before bytes = do
  contract ← contract_at before bytes
  lock ← lock_at kind before contract.0 contract.1
  value ← value_at kind lock.1
  Ok ((lock.0, value.0), value.1)

-- a cell has 20 bytes
unfoldable pub list_at : Kind → List ℕ → Read (List Cell)
list_at kind bytes = do
  count ← number_at w64 bytes
  after_count (cell_at kind) 20 (length bytes) count

-- the cells of the maps, and those of the counters
unfoldable pub lists_at : List ℕ → Read (List Cell × List Cell)
lists_at bytes = do
  maps ← list_at Map bytes
  counters ← list_at Counter maps.1
  Ok ((maps.0, counters.0), counters.1)

-- ---- what is read

-- a cell of a kind that may stand after this one
pub record IsNextCell (kind : Kind) (before : Option Cell) (c : Cell) : Type 0 where
  pub cell : IsCell c
  pub kind_is : c.0.kind ≡ kind
  pub after : is_after before c.0 ≡ true

-- the cells of a kind, rising
pub record AreCellsOf (kind : Kind) (cells : List Cell) : Type 0 where
  pub count : length cells < 2 ^ 64
  pub each : Follow (IsNextCell kind) None cells

abbrev pub list_bytes : List Cell → List ℕ
list_bytes cells = u64_bytes (length cells) ++ flat_map cell_bytes cells

abbrev pub lists_bytes : List Cell × List Cell → List ℕ
lists_bytes lists = list_bytes lists.0 ++ list_bytes lists.1

abbrev pub AreLists : List Cell × List Cell → Type 0
AreLists lists = AreCellsOf Map lists.0 × AreCellsOf Counter lists.1

-- ---- a store

-- the cells of a store by their kinds
pub record IsStoreOf (cells : Cells) (lists : List Cell × List Cell) : Type 0 where
  pub maps : filter (λ (c : Cell). is_map c.0.kind) (entries cells) ≡ lists.0
  pub counters : filter (λ (c : Cell). is_counter c.0.kind) (entries cells) ≡ lists.1
  pub each : AllByRecursion IsCell (entries cells)

-- the cells of a world
pub record AreStored (cells : Cells) : Type 0 where
  pub each : AllByRecursion IsCell (entries cells)
  pub size : length (entries cells) < 2 ^ 64

-- those of the maps, and then those of the counters
abbrev pub stored_bytes : Cells → List ℕ
stored_bytes cells = cells_bytes is_map cells ++ cells_bytes is_counter cells
