-- A block as JSON, with its figures.
use Rattle.std.specs.Prelude.{◌≡◌, ◌==◌, ℕ, ◌*◌, ◌/◌, Option, Some, None, List, [], ◌∷◌, if◌then◌else◌, codes, map, slice_get, slice_index}
use Rattle.std.specs.Borrow.{Bor}
use Rattle.std.specs.Fmt.{signed_decimal}
use Rattle.serde_json.specs.Data.{Data, null, string}
use Rattle.wtypes.specs.declared.Value.{Value}
use Rattle.wtypes.specs.declared.Value.TheVariants.{I32, I64}
use Rattle.spec_ledger.specs.declared.Entry.{Entry}
use Rattle.spec_ledger.specs.declared.Outcome.{Outcome}
use Rattle.spec_ledger.specs.declared.Outcome.TheVariants as outcome
use Rattle.spec_ledger.specs.declared.Receipt.{Receipt}
use Rattle.spec_block.specs.Worlds.{Block, Call, Position}
use Rattle.spec_block.specs.Bytes.{trap_code, version_code}
use Rattle.figures.specs.Figures.{AreFigures}
use Rattle.figures.specs.Words.{hundredth, kind_word, mode_word}
use Rattle.figures.specs.declared.figures.Chains.{Chains}
use Rattle.figures.specs.declared.figures.Figures.{Figures}
use Rattle.figures.specs.declared.hottest.SharedLock.{SharedLock}
use Rattle.figures.specs.declared.outcomes.OutcomeCount.{OutcomeCount}
use Rattle.figures.specs.declared.outcomes.OutcomeKind.{OutcomeKind}
use Rattle.figures.specs.declared.outcomes.OutcomeKind.TheVariants.{Returned, Trapped, OutOfFuel, Rejected}
use Rattle.wblock_json.specs.Json.{IsJson, array_of, hex_data, large, maybe, numbered, object_of, small}

-- ---- calls

unfoldable pub typed_data : List ℕ → List ℕ → Data
typed_data type digits = object_of ((codes "type", string type) ∷ (codes "value", string digits) ∷ [])

-- a value with its type, by its signed reading
abbrev pub value_data : Value → Data
value_data (I32 n) = typed_data (codes "i32") (signed_decimal n)
value_data (I64 n) = typed_data (codes "i64") (signed_decimal n)

unfoldable pub call_data : Call → Data
call_data c =
    object_of
    ((codes "contract", small c.contract)
    ∷ (codes "entry", string c.entry)
    ∷ (codes "args", array_of (map value_data c.args))
    ∷ [])

-- the calls, where they are known
abbrev pub calls_of : Option (Bor (List Call)) → Option (List Call)
calls_of None = None
calls_of (Some calls) = Some calls.now

-- the call of this number, where the calls are known
abbrev pub called_data : Option (List Call) → ℕ → Data
called_data None n = null
called_data (Some calls) n = maybe call_data (slice_get calls n)

-- ---- outcomes

-- an outcome without the value that was returned
abbrev pub kind_of : Outcome → OutcomeKind
kind_of (outcome.Returned v) = Returned
kind_of (outcome.Trapped t) = Trapped t
kind_of outcome.OutOfFuel = OutOfFuel
kind_of (outcome.Rejected code) = Rejected code

abbrev pub outcome_word : OutcomeKind → List ℕ
outcome_word Returned = codes "returned"
outcome_word (Trapped t) = codes "trapped"
outcome_word OutOfFuel = codes "out-of-fuel"
outcome_word (Rejected code) = codes "rejected"

-- the number of the trap, or of the reason of a rejection
abbrev pub code_data : OutcomeKind → Data
code_data Returned = null
code_data (Trapped t) = small (trap_code t)
code_data OutOfFuel = null
code_data (Rejected code) = small code

-- the value that was returned, if one was
abbrev pub returned_data : Outcome → Data
returned_data (outcome.Returned None) = null
returned_data (outcome.Returned (Some v)) = value_data v
returned_data (outcome.Trapped t) = null
returned_data outcome.OutOfFuel = null
returned_data (outcome.Rejected code) = null

-- what is told of a receipt
abbrev pub receipt_members : Receipt → List (List ℕ × Data)
receipt_members r =
    (codes "outcome", string (outcome_word (kind_of r.outcome)))
    ∷ (codes "code", code_data (kind_of r.outcome))
    ∷ (codes "value", returned_data r.outcome)
    ∷ (codes "fuel", large r.used)
    ∷ (codes "asks", small r.asks)
    ∷ []

-- ---- locks

unfoldable pub entry_data : Entry → Data
entry_data e =
    object_of
    ((codes "kind", string (kind_word e.lock.kind))
    ∷ (codes "contract", small e.lock.contract)
    ∷ (codes "key", large e.lock.key)
    ∷ (codes "mode", string (mode_word e.mode))
    ∷ (codes "turn", small e.turn)
    ∷ [])

-- ---- positions

abbrev pub wave_data : Option Chains → ℕ → Data
wave_data None position = null
wave_data (Some c) position = small (slice_index c.waves.items position)

unfoldable pub position_data : Option (List Call) → Option Chains → ℕ → Position → Data
position_data calls chains n p =
    object_of
    ((codes "position", small n)
    ∷ (codes "call", small p.call)
    ∷ (codes "called", called_data calls p.call)
    ∷ (codes "wave", wave_data chains n)
    ∷ (codes "locks", array_of (map entry_data p.profile))
    ∷ receipt_members p.receipt)

-- ---- figures

abbrev pub waves_data : Option Chains → Data
waves_data None = null
waves_data (Some c) = small c.wave_count

unfoldable pub longest_data : Chains → Data
longest_data c = object_of ((codes "positions", small c.wave_count) ∷ (codes "fuel", large c.chain_fuel) ∷ [])

abbrev pub chain_data : Option Chains → Data
chain_data None = null
chain_data (Some c) = longest_data c

-- one number by another, with two decimals, rounded down
abbrev pub ratio_data : ℕ → ℕ → Data
ratio_data total part = if part == 0 then null else string (hundredth (100 * total / part))

-- how much faster than one worker any number of them can be, by fuel
abbrev pub speed_up_data : Option Chains → ℕ → Data
speed_up_data None total = null
speed_up_data (Some c) total = ratio_data total c.chain_fuel

unfoldable pub shared_data : SharedLock → Data
shared_data s =
    object_of
    ((codes "kind", string (kind_word s.lock.kind))
    ∷ (codes "contract", small s.lock.contract)
    ∷ (codes "key", large s.lock.key)
    ∷ (codes "positions", small s.positions)
    ∷ [])

unfoldable pub count_data : OutcomeCount → Data
count_data o =
    object_of
    ((codes "outcome", string (outcome_word o.kind))
    ∷ (codes "code", code_data o.kind)
    ∷ (codes "positions", small o.positions)
    ∷ [])

unfoldable pub figures_data : Figures → Data
figures_data f =
    object_of
    ((codes "total_fuel", large f.total_fuel)
    ∷ (codes "waves", waves_data f.chains)
    ∷ (codes "chain", chain_data f.chains)
    ∷ (codes "speed_up", speed_up_data f.chains f.total_fuel)
    ∷ (codes "shared", array_of (map shared_data f.hottest.items))
    ∷ (codes "outcomes", array_of (map count_data f.outcomes.items))
    ∷ [])

-- ---- blocks

-- the block, with its calls where they are known, and with these figures
unfoldable pub block_data : Block → Option (List Call) → Figures → Data
block_data b calls f =
    object_of
    ((codes "kind", string (codes "block"))
    ∷ (codes "version", small (version_code b.version))
    ∷ (codes "before", hex_data b.before)
    ∷ (codes "calls", hex_data b.calls)
    ∷ (codes "after", hex_data b.after)
    ∷ (codes "fuel", large b.fuel)
    ∷ (codes "positions", array_of (numbered (position_data calls f.chains) 0 b.positions))
    ∷ (codes "figures", figures_data f)
    ∷ [])

-- the value of a block with its figures
pub record IsBlockData (b : Block) (calls : Option (List Call)) (d : Data) : Type 0 where
  pub figures : Figures
  pub are : AreFigures b figures
  pub data_is : d ≡ block_data b calls figures

-- the text of a block with its figures
pub record IsBlockJson (b : Block) (calls : Option (List Call)) (text : List ℕ) : Type 0 where
  pub figures : Figures
  pub are : AreFigures b figures
  pub json : IsJson (block_data b calls figures) text
