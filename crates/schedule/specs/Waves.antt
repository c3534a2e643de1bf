-- Waves by predecessors.
use Rattle.std.specs.Prelude.{◌≡◌, ◌+◌, ◌<◌, ◌≤◌, ◌⊎◌, ℕ, Option, Some, None, List, slice_index}
use Rattle.std.specs.List.{Contains}
use Rattle.spec_ledger.specs.declared.Entry.{Entry}
use Rattle.lock_profile.specs.declared.lock_turn.LockTurn.{LockTurn}
use Rattle.lock_profile.specs.LockTurns.{turn_of}
use Rattle.schedule.specs.Turns.{next_turn}

abbrev pub or_none : Option ℕ → ℕ
or_none None = 0
or_none (Some wave) = wave

-- the least wave that is left at a lock and turn
abbrev pub least_of : (LockTurn → Option ℕ) → LockTurn → ℕ
least_of waves at = or_none (waves at)

-- the greatest of those that are left to some entries, or 0 where there are none
pub record IsGreatest (least : LockTurn → ℕ) (es : List Entry) (wave : ℕ) : Type 0 where
  pub above : (e : Entry) → Contains es e → least (turn_of e) ≤ wave
  pub reached : (wave ≡ 0) ⊎ ((e : Entry) × Contains es e × (least (turn_of e) ≡ wave))

-- some entry has the turn before at this lock
abbrev pub IsAfter : LockTurn → List Entry → Type 0
IsAfter q es = (e : Entry) × Contains es e × (next_turn e ≡ q)

-- raised to a wave where some entry has the turn before
pub record AreRaised (es : List Entry) (wave : ℕ) (old new : LockTurn → ℕ) : Type 0 where
  pub up : (q : LockTurn) → old q ≤ new q
  pub there : (q : LockTurn) → IsAfter q es → wave ≤ new q
  pub alone : (q : LockTurn) → (new q ≡ old q) ⊎ (IsAfter q es × (new q ≡ wave))

-- one more than the highest wave of these, or 0 where there are none
pub record IsTop (waves : List ℕ) (IsOne : ℕ → Type 0) (wave : ℕ) : Type 0 where
  pub above : (k : ℕ) → IsOne k → slice_index waves k < wave
  pub least : (wave ≡ 0) ⊎ ((k : ℕ) × IsOne k × (slice_index waves k + 1 ≡ wave))
