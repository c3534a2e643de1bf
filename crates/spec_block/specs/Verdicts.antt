-- What a validator answers.
use Rattle.std.specs.Prelude.{◌≡◌, ◌≢◌, ℕ, ◌-◌, ◌<◌, ◌≤◌, ◌⊎◌, List, length, take, slice_get, slice_index, Option, Some, Contains}
use Rattle.std.specs.List.{AllByRecursion}
use Rattle.std.specs.FinMap.{entries, find}
use Rattle.sha2.specs.Sha256.{sha256}
use Rattle.spec_ledger.specs.declared.Lock.{Lock}
use Rattle.spec_ledger.specs.declared.Mode.{Mode}
use Rattle.spec_ledger.specs.declared.Entry.{Entry}
use Rattle.spec_ledger.specs.Cells.{Cells, lock_cmp}
use Rattle.spec_ledger.specs.Order.{turn_by, limits_of}
use Rattle.spec_block.specs.Worlds.{Call, World, Position, Block, order_of, profiles_of, limits, held_in}
use Rattle.spec_execution.specs.Serial.{CallResult}
use Rattle.spec_block.specs.Serial.{Serial}
use Rattle.spec_block.specs.Bytes.{world_bytes, calls_bytes, SpellsBlock}
use Rattle.spec_block.specs.Blocks.{fuel_of, world_after}

pub data Verdict : Type 0 where
  Malformed WrongWorld WrongCalls : Verdict
  BadOrder : (position : ℕ) → Verdict
  OverBudget : Verdict
  RoomLeft : (call : ℕ) → Verdict
  BadTurns : (position : ℕ) → Verdict
  Deviates : (position : ℕ) → Verdict
  WrongEnd : Verdict
  Accept : World → Verdict

-- the reasons' numbers; Accept comes last
abbrev pub place : Verdict → ℕ
place Malformed = 1
place WrongWorld = 2
place WrongCalls = 3
place (BadOrder p) = 4
place OverBudget = 5
place (RoomLeft c) = 6
place (BadTurns p) = 7
place (Deviates p) = 8
place WrongEnd = 9
place (Accept w) = 10

-- the least number of which P holds
pub record IsLeast (P : ℕ → Type 0) (n : ℕ) : Type 0 where
  pub holds : P n
  pub none_before : (m : ℕ) → m < n → ¬ (P m)

-- its number is not below the number of calls or stood before
abbrev pub IsBadNumber : List Call → List ℕ → ℕ → Type 0
IsBadNumber calls order position = (n : ℕ) × (slice_get order position ≡ Some n) × ((length calls ≤ n) ⊎ Contains (take position order) n)

-- a call that is left out although its limit is not above what remains
pub record HasRoom (calls : List Call) (fuel : ℕ) (order : List ℕ) (call : ℕ) : Type 0 where
  pub known : call < length calls
  pub left_out : ¬ (Contains order call)
  pub fits : slice_index (limits calls) call ≤ fuel - limits_of (limits calls) order

-- the mode that a profile publishes at a lock
abbrev pub mode_in : Lock → List Entry → Option Mode
mode_in lock profile = find lock_cmp lock (held_in profile)

-- an entry's turn is that of the published modes in the published order
abbrev pub HasTurn : List (List Entry) → ℕ → Entry → Type 0
HasTurn profiles position e = e.turn ≡ turn_by (mode_in e.lock) profiles position

abbrev pub HasOtherTurns : List (List Entry) → ℕ → Type 0
HasOtherTurns profiles position = (profile : List Entry) × (slice_get profiles position ≡ Some profile) × ¬ (AllByRecursion (HasTurn profiles position) profile)

-- a position's receipt, and its locks and modes, are those of the run
abbrev pub Agrees : Position → CallResult → Type 0
Agrees p r = (p.receipt ≡ r.receipt) × (held_in p.profile ≡ entries r.touched)

abbrev pub IsOther : List Position → List CallResult → ℕ → Type 0
IsOther positions ran position =
    (p : Position) × (r : CallResult) × (slice_get positions position ≡ Some p) × (slice_get ran position ≡ Some r) × ¬ (Agrees p r)

-- the serial run of a block's order
abbrev pub RunOf : World → List Call → Block → List CallResult → Cells → Type 0
RunOf world calls b ran last = Serial b.version world calls (order_of b) world.cells ran last

-- what a reason says of the block that the bytes spell
abbrev pub HoldsOf : World → List Call → ℕ → Block → Verdict → Type 0
HoldsOf world calls fuel b Malformed = ⊥
HoldsOf world calls fuel b WrongWorld = b.before ≢ sha256 (world_bytes world)
HoldsOf world calls fuel b WrongCalls = b.calls ≢ sha256 (calls_bytes calls)
HoldsOf world calls fuel b (BadOrder position) = IsLeast (IsBadNumber calls (order_of b)) position
HoldsOf world calls fuel b OverBudget = fuel < limits_of (limits calls) (order_of b)
HoldsOf world calls fuel b (RoomLeft call) = IsLeast (HasRoom calls fuel (order_of b)) call
HoldsOf world calls fuel b (BadTurns position) = IsLeast (HasOtherTurns (profiles_of b)) position
HoldsOf world calls fuel b (Deviates position) =
    (ran : List CallResult) × (last : Cells) × RunOf world calls b ran last × IsLeast (IsOther b.positions ran) position
HoldsOf world calls fuel b WrongEnd =
    (ran : List CallResult) × (last : Cells) × RunOf world calls b ran last × ((b.fuel ≢ fuel_of ran) ⊎ (b.after ≢ sha256 (world_bytes (world_after world last))))
HoldsOf world calls fuel b (Accept next) =
    (ran : List CallResult) × (last : Cells) × RunOf world calls b ran last × (next ≡ world_after world last)

-- where a reason holds
abbrev pub Holds : World → List Call → ℕ → List ℕ → Verdict → Type 0
Holds world calls fuel bytes Malformed = (b : Block) → ¬ (SpellsBlock bytes b)
Holds world calls fuel bytes verdict = (b : Block) × SpellsBlock bytes b × HoldsOf world calls fuel b verdict

-- the first reason that holds, else Accept
pub record IsVerdictOf (world : World) (calls : List Call) (fuel : ℕ) (bytes : List ℕ) (verdict : Verdict) : Type 0 where
  pub holds : Holds world calls fuel bytes verdict
  pub none_before : (other : Verdict) → place other < place verdict → ¬ (Holds world calls fuel bytes other)
