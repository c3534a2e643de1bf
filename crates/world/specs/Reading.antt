-- Reading a world from front to back. That bytes are a contract's is no function of theirs that is computed here, so the reading of contracts
-- is a relation.
use Rattle.std.specs.Prelude.{◌≡◌, ◌≢◌, ℕ, ◌*◌, ◌-◌, ◌<◌, List, [], ◌++◌, length, take, drop, Ok, Err, nat_lt, if◌then◌else◌}
use Rattle.std.specs.Int.{w32}
use Rattle.std.specs.List.{flat_map, AllByRecursion}
use Rattle.spec_modules.specs.Shortest.{shortest}
use Rattle.spec_block.specs.Worlds.{Contract, World}
use Rattle.spec_block.specs.Bytes.{contract_bytes, IsTree, SpellsWorld}
use Rattle.records.specs.declared.fault.Fault.{Fault}
use Rattle.records.specs.declared.fault.Fault.TheVariants.{Malformed, TooLarge, NoMemory}
use Rattle.records.specs.Reading.{Read, ◌>>=◌, Fails, number_at, tag_at}
use Rattle.world.specs.Cells.{lists_at, AreStored, stored_bytes}
use Rattle.spec_ledger.specs.Cells.{Cells}
use Rattle.records.specs.declared.refusal.ReadRefusal.{ReadRefusal}
use Rattle.records.specs.declared.refusal.ReadRefusal.TheVariants as refusal

-- ---- contracts

-- the bytes are the contract's shortest spelling
pub record IsBody (body : List ℕ) (c : Contract) : Type 0 where
  pub tree : IsTree c
  pub is : body ≡ shortest c.tree

abbrev pub IsNoBody : List ℕ → Type 0
IsNoBody body = (c : Contract) → IsBody body c → ⊥

-- a length and so many bytes: where they end past the input, the length is at fault
unfoldable pub body_at : List ℕ → Read (List ℕ)
body_at bytes = do
  size ← number_at w32 bytes
  if nat_lt (length size.1) size.0 then Err (Malformed (length bytes)) else Ok (take size.0 size.1, drop size.0 size.1)

-- a contract stands in front
pub record BeginsWith (bytes : List ℕ) (c : Contract) (rest : List ℕ) : Type 0 where
  pub tree : IsTree c
  pub parts : bytes ≡ contract_bytes c ++ rest

abbrev pub BeginsWithNone : List ℕ → Type 0
BeginsWithNone bytes = (c : Contract) (rest : List ℕ) → BeginsWith bytes c rest → ⊥

-- so many contracts stand in front
pub record AreRead (count : ℕ) (bytes : List ℕ) (contracts : List Contract) (rest : List ℕ) : Type 0 where
  pub number : length contracts ≡ count
  pub trees : AllByRecursion IsTree contracts
  pub parts : bytes ≡ flat_map contract_bytes contracts ++ rest

-- after fewer contracts than the count no contract stands, and the fault is there
pub record IsAfterFewer (count : ℕ) (bytes : List ℕ) (left : ℕ) : Type 0 where
  pub contracts : List Contract
  pub rest : List ℕ
  pub fewer : length contracts < count
  pub read : AreRead (length contracts) bytes contracts rest
  pub none : BeginsWithNone rest
  pub at : left ≡ length rest

abbrev pub IsFaultAmong : ℕ → List ℕ → Fault → Type 0
IsFaultAmong count bytes (Malformed left) = IsAfterFewer count bytes left
IsFaultAmong count bytes TooLarge = ⊥
IsFaultAmong count bytes NoMemory = Unit {0}

-- ---- a world

-- the magic, read as a number, the version, and the count of contracts, of which each has at least 12 bytes; whether there are too many is
-- tested first
unfoldable pub head_at : List ℕ → Read ℕ
head_at bytes = do
  version ← tag_at 0x44574257 bytes
  counted ← tag_at 1 version
  count ← number_at w32 counted
  if nat_lt 1024 count.0 then Err TooLarge else if nat_lt (length count.1) (12 * count.0) then Err (Malformed (length counted)) else Ok count

-- contracts stand behind the head of a world
pub record StandBehind (bytes : List ℕ) (contracts : List Contract) (rest : List ℕ) : Type 0 where
  pub count : ℕ
  pub behind : List ℕ
  pub head : head_at bytes ≡ Ok (count, behind)
  pub read : AreRead count behind contracts rest

-- the bytes spell no world
abbrev pub IsNoWorld : List ℕ → Type 0
IsNoWorld bytes = (w : World) → SpellsWorld bytes w → ⊥

-- the first fault from front to back: in the head, among the contracts, among the cells, or a byte that is left over
pub data IsFirstFault (bytes : List ℕ) : Fault → Type 0 where
  in_head : (f : Fault) → Fails f (head_at bytes) → IsFirstFault bytes f
  in_contracts : (f : Fault) (count : ℕ) (behind : List ℕ) → head_at bytes ≡ Ok (count, behind) → IsFaultAmong count behind f → IsFirstFault bytes f
  in_cells : (f : Fault) (contracts : List Contract) (rest : List ℕ) → StandBehind bytes contracts rest → Fails f (lists_at rest) → IsFirstFault bytes f
  left_over : (contracts : List Contract) (cells : Cells) (rest over : List ℕ) → StandBehind bytes contracts rest → AreStored cells → rest ≡ stored_bytes cells ++ over → over ≢ [] → IsFirstFault bytes (Malformed (length over))

-- the refusal is the first fault of reading so many bytes, unless memory was refused
abbrev pub Refuses : List ℕ → ReadRefusal → Type 0
Refuses bytes (refusal.Malformed at) = (left : ℕ) × IsFirstFault bytes (Malformed left) × (at ≡ length bytes - left)
Refuses bytes refusal.TooLarge = IsFirstFault bytes TooLarge
Refuses bytes refusal.NoMemory = Unit {0}
