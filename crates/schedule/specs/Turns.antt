-- The gates before the turns of locks.
use Rattle.std.specs.Prelude.{◌≡◌, ◌+◌, ◌<◌, ◌^◌, ◌↔◌, ℕ, Option, Some, None, List, [], length}
use Rattle.std.specs.List.{Contains}
use Rattle.std.specs.List.Sorted.{IsStrictlyIncreasing}
use Rattle.spec_ledger.specs.declared.Mode.{Mode}
use Rattle.spec_ledger.specs.declared.Entry.{Entry}
use Rattle.spec_block.specs.Schedule.{Holds}
use Rattle.lock_profile.specs.declared.lock_turn.LockTurn.{LockTurn}
use Rattle.lock_profile.specs.LockTurns.{after, turn_of}
use Rattle.schedule.specs.Graph.{list_at}

abbrev pub next_turn : Entry → LockTurn
next_turn e = after (turn_of e)

-- some entry has this lock at this turn
abbrev pub IsAt : LockTurn → List Entry → Type 0
IsAt q es = (e : Entry) × Contains es e × (turn_of e ≡ q)

-- a position holds this lock at this turn
abbrev pub IsHolder : List (List Entry) → LockTurn → ℕ → Type 0
IsHolder profiles q position = (mode : Mode) × Holds profiles position q.lock mode q.turn

-- the positions behind a gate, if there is one
abbrev pub behind_gate : List (List ℕ) → Option ℕ → List ℕ
behind_gate behind None = []
behind_gate behind (Some gate) = list_at behind gate

-- those behind the gate before a turn
abbrev pub behind_turn : (LockTurn → Option ℕ) → List (List ℕ) → LockTurn → List ℕ
behind_turn numbers behind q = behind_gate behind (numbers q)

-- each turn has a gate of its own, and behind each gate stand some of the first positions, rising
pub record AreNumbered (numbers : LockTurn → Option ℕ) (behind : List (List ℕ)) (positions : ℕ) : Type 0 where
  pub few : length behind < 2 ^ 32
  pub within : (q : LockTurn) (gate : ℕ) → numbers q ≡ Some gate → gate < length behind
  pub own : (q r : LockTurn) (gate : ℕ) → numbers q ≡ Some gate → numbers r ≡ Some gate → q ≡ r
  pub rising : (gate : ℕ) → IsStrictlyIncreasing (list_at behind gate)
  pub below : (gate j : ℕ) → Contains (list_at behind gate) j → j < positions

-- a gate stands before the next turn at one of these entries' locks
abbrev pub IsHeld : (LockTurn → Option ℕ) → List Entry → ℕ → Type 0
IsHeld numbers es gate = (e : Entry) × Contains es e × (numbers (next_turn e) ≡ Some gate)

-- a gate stands before the turn after one that this position has
abbrev pub HoldsGate : List (List Entry) → (LockTurn → Option ℕ) → ℕ → ℕ → Type 0
HoldsGate profiles numbers i gate = (q : LockTurn) × IsHolder profiles q i × (numbers (after q) ≡ Some gate)

-- for each of the first positions the gates that it holds shut, rising
pub record AreHeld (profiles : List (List Entry)) (numbers : LockTurn → Option ℕ) (holds : List (List ℕ)) (positions : ℕ) : Type 0 where
  pub each : length holds ≡ positions
  pub rising : (i : ℕ) → IsStrictlyIncreasing (list_at holds i)
  pub exact : (i gate : ℕ) → i < positions → Contains (list_at holds i) gate ↔ HoldsGate profiles numbers i gate
