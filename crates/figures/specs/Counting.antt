-- How the hottest locks are found.
use Rattle.std.specs.Prelude.{◌≡◌, ◌⊎◌, ℕ, ◌<◌, ◌≤◌, Option, Some, None, is_some, List, length, slice_index_or, unwrap_or, MatchOption, if◌then◌else◌}
use Rattle.std.specs.List.{Contains}
use Rattle.spec_ledger.specs.declared.Lock.{Lock}
use Rattle.spec_ledger.specs.declared.Entry.{Entry}
use Rattle.spec_block.specs.Schedule.{hold_in}
use Rattle.figures.specs.Hottest.{IsHotter}
use Rattle.figures.specs.declared.hottest.SharedLock.{SharedLock}

-- what a map has at a lock, 0 where it has nothing
abbrev pub number_at : (Lock → Option ℕ) → Lock → ℕ
number_at counts lock = unwrap_or (counts lock) 0

-- 1 for a profile that holds the lock
abbrev pub held_by : Lock → List Entry → ℕ
held_by lock es = if is_some (hold_in lock es) then 1 else 0

-- some entry has this lock, and several positions hold it
abbrev pub IsTold : (Lock → ℕ) → List Entry → SharedLock → Type 0
IsTold number es s = (e : Entry) × Contains es e × (e.lock ≡ s.lock) × (s.positions ≡ number s.lock) × (2 ≤ s.positions)

-- it is told after the last one, if there is one
abbrev pub IsBehind : Option SharedLock → SharedLock → Type 0
IsBehind None s = Unit {0}
IsBehind (Some last) s = IsHotter last s

-- it is told before the best so far, if there is one
abbrev pub IsSooner : Option SharedLock → SharedLock → Type 0
IsSooner None s = Unit {0}
IsSooner (Some best) s = IsHotter s best

-- it takes the place of the best so far where it is told after the last one and before the best
abbrev pub IsBetter : Option SharedLock → Option SharedLock → SharedLock → Option SharedLock → Type 0
IsBetter last best s new = (IsBehind last s × IsSooner best s × (new ≡ Some s)) ⊎ (¬ (IsBehind last s × IsSooner best s) × (new ≡ best))

-- the hottest of those behind the last one
abbrev pub IsNext : List SharedLock → Option SharedLock → Option SharedLock → Type 0
IsNext shared last next =
    MatchOption next ((s : SharedLock) → Contains shared s → ¬ IsBehind last s)
    (λ h. Contains shared h × IsBehind last h × ((s : SharedLock) → Contains shared s → IsBehind last s → (s ≡ h) ⊎ IsHotter h s))

-- the ten hottest of these
pub record AreFirst (shared : List SharedLock) (hottest : List SharedLock) : Type 0 where
  pub few : length hottest ≤ 10
  pub within : (s : SharedLock) → Contains hottest s → Contains shared s
  pub falling : (i j : ℕ) (d : SharedLock) → i < j → j < length hottest → IsHotter (slice_index_or hottest i d) (slice_index_or hottest j d)
  pub rest : (s : SharedLock) → Contains shared s → Contains hottest s ⊎ ((length hottest ≡ 10) × ((h : SharedLock) → Contains hottest h → IsHotter h s))
