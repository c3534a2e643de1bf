-- Locks that several positions hold.
use Rattle.std.specs.Prelude.{◌≡◌, ◌⊎◌, ℕ, ◌<◌, ◌≤◌, List, length, count_by, is_some, slice_index_or}
use Rattle.std.specs.declared.cmp.Ordering.TheVariants.{Less}
use Rattle.std.specs.List.{Contains}
use Rattle.spec_ledger.specs.declared.Lock.{Lock}
use Rattle.spec_ledger.specs.declared.Entry.{Entry}
use Rattle.spec_ledger.specs.Cells.{lock_cmp}
use Rattle.spec_block.specs.Schedule.{hold_in}
use Rattle.figures.specs.declared.hottest.SharedLock.{SharedLock}

-- how many positions hold a lock
abbrev pub holders : List (List Entry) → Lock → ℕ
holders profiles lock = count_by (λ es. is_some (hold_in lock es)) profiles

-- two positions or more hold the lock, as many as it says
pub record IsShared (profiles : List (List Entry)) (s : SharedLock) : Type 0 where
  pub count : s.positions ≡ holders profiles s.lock
  pub several : 2 ≤ s.positions

-- more positions hold the first, or as many do and its lock comes first
abbrev pub IsHotter : SharedLock → SharedLock → Type 0
IsHotter a b = (b.positions < a.positions) ⊎ ((a.positions ≡ b.positions) × (lock_cmp a.lock b.lock ≡ Less))

-- the ten hottest of the shared locks, the hottest first, or all of them where they are fewer
pub record AreHottest (profiles : List (List Entry)) (hottest : List SharedLock) : Type 0 where
  pub few : length hottest ≤ 10
  pub shared : (s : SharedLock) → Contains hottest s → IsShared profiles s
  pub falling : (i j : ℕ) (d : SharedLock) → i < j → j < length hottest → IsHotter (slice_index_or hottest i d) (slice_index_or hottest j d)
  pub rest : (s : SharedLock) → IsShared profiles s → Contains hottest s ⊎ ((length hottest ≡ 10) × ((h : SharedLock) → Contains hottest h → IsHotter h s))
