-- The block of an order.
use Rattle.std.specs.Prelude.{◌≡◌, ℕ, ◌+◌, List, [], ◌∷◌, map, sum}
use Rattle.std.specs.FinMap.{entries}
use Rattle.sha2.specs.Sha256.{sha256}
use Rattle.spec_ledger.specs.declared.Version.{Version}
use Rattle.spec_ledger.specs.declared.Lock.{Lock}
use Rattle.spec_ledger.specs.declared.Mode.{Mode}
use Rattle.spec_ledger.specs.declared.Entry.{Entry}
use Rattle.spec_ledger.specs.Cells.{Cells}
use Rattle.spec_ledger.specs.Modes.{Modes}
use Rattle.spec_ledger.specs.Order.{turn_at, IsAdmissible}
use Rattle.spec_block.specs.Worlds.{Call, World, Position, Block, limits}
use Rattle.spec_execution.specs.Serial.{CallResult}
use Rattle.spec_block.specs.Serial.{Serial}
use Rattle.spec_block.specs.Bytes.{world_bytes, calls_bytes}

-- an order that may be published, of the calls of this number
abbrev pub Admissible : List Call → List ℕ → ℕ → Type 0
Admissible calls order fuel = IsAdmissible (limits calls) order fuel

-- what was touched at a position, with turns; `all` is what each position touched
abbrev pub profile_at : List Modes → ℕ → Modes → List Entry
profile_at all position modes = map (λ (held : Lock × Mode). record { lock = held.0; mode = held.1; turn = turn_at all position held.0 }) (entries modes)

abbrev pub all_touched : List CallResult → List Modes
all_touched ran = map (λ (r : CallResult). r.touched) ran

-- the calls of an order with receipts and profiles, from this position on
abbrev pub positions_from : List Modes → ℕ → List ℕ → List CallResult → List Position
positions_from all position [] ran = []
positions_from all position (n ∷ order) [] = []
positions_from all position (n ∷ order) (r ∷ ran) =
    record { call = n; receipt = r.receipt; profile = profile_at all position r.touched } ∷ positions_from all (position + 1) order ran

abbrev pub positions : List ℕ → List CallResult → List Position
positions order ran = positions_from (all_touched ran) 0 order ran

abbrev pub fuel_of : List CallResult → ℕ
fuel_of ran = sum (map (λ (r : CallResult). r.receipt.used) ran)

-- the world with the cells that a run left
abbrev pub world_after : World → Cells → World
world_after world cells = record { contracts = world.contracts; cells = cells }

abbrev pub block_of : Version → World → List Call → List ℕ → List CallResult → Cells → Block
block_of version world calls order ran last = record {
  version = version;
  before = sha256 (world_bytes world);
  calls = sha256 (calls_bytes calls);
  positions = positions order ran;
  fuel = fuel_of ran;
  after = sha256 (world_bytes (world_after world last));
}

-- the block of an order
pub record IsBlockOf (world : World) (calls : List Call) (order : List ℕ) (block : Block) : Type 0 where
  pub ran : List CallResult
  pub last : Cells
  pub serial : Serial block.version world calls order world.cells ran last
  pub is : block ≡ block_of block.version world calls order ran last
