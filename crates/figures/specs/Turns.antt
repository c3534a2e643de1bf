-- Turns of locks, and the greatest sums so far at each.
use Rattle.std.specs.Prelude.{◌≡◌, ◌⊎◌, ℕ, ◌+◌, ◌≤◌, Option, Some, List}
use Rattle.std.specs.List.{Contains}
use Rattle.spec_ledger.specs.declared.Entry.{Entry}
use Rattle.lock_profile.specs.declared.lock_turn.LockTurn.{LockTurn}
use Rattle.lock_profile.specs.LockTurns.{after, turn_of}

-- some entry has this lock at this turn
abbrev pub IsAt : List Entry → LockTurn → Type 0
IsAt es q = (e : Entry) × Contains es e × (turn_of e ≡ q)

-- some entry has the turn after this one
abbrev pub IsAfter : List Entry → LockTurn → Type 0
IsAfter es q = IsAt es (after q)

-- the greater of a sum and of one that may be there
pub record IsRaise (sum : ℕ) (old : Option ℕ) (new : ℕ) : Type 0 where
  pub sum_within : sum ≤ new
  pub old_within : (w : ℕ) → old ≡ Some w → w ≤ new
  pub reached : (new ≡ sum) ⊎ (old ≡ Some new)

-- raised to a sum at this turn alone
pub record IsRaisedAt (at : LockTurn) (sum : ℕ) (old new : LockTurn → Option ℕ) : Type 0 where
  pub there : (w : ℕ) × (new at ≡ Some w) × IsRaise sum (old at) w
  pub elsewhere : (q : LockTurn) → (at ≡ q) ⊎ (new q ≡ old q)

-- raised to a sum at the turns of these entries alone
abbrev pub AreRaised : List Entry → ℕ → (LockTurn → Option ℕ) → (LockTurn → Option ℕ) → Type 0
AreRaised es sum old new = (q : LockTurn) → (IsAt es q × ((w : ℕ) × (new q ≡ Some w) × IsRaise sum (old q) w)) ⊎ ((IsAt es q → ⊥) × (new q ≡ old q))

-- the sum at the turn before this one, or 0 where there is none
pub record IsBefore (top : LockTurn → Option ℕ) (at : LockTurn) (sum : ℕ) : Type 0 where
  pub above : (q : LockTurn) (w : ℕ) → after q ≡ at → top q ≡ Some w → w ≤ sum
  pub reached : (sum ≡ 0) ⊎ ((q : LockTurn) × (after q ≡ at) × (top q ≡ Some sum))

-- the greatest of the sums at the turns before those of some entries, or 0 where there are none
pub record IsBest (top : LockTurn → Option ℕ) (es : List Entry) (best : ℕ) : Type 0 where
  pub above : (q : LockTurn) (w : ℕ) → IsAfter es q → top q ≡ Some w → w ≤ best
  pub reached : (best ≡ 0) ⊎ ((q : LockTurn) × IsAfter es q × (top q ≡ Some best))

-- some sum stands at the turn after one of these entries' turns
abbrev pub IsPast : (LockTurn → Option ℕ) → List Entry → Type 0
IsPast top es = (e : Entry) × Contains es e × ((w : ℕ) × (top (after (turn_of e)) ≡ Some w))
