-- What contracts see of a board, and what its type keeps.
use Rattle.std.specs.Prelude.{◌≡◌, ◌==◌, ◌↔◌, ℕ, ◌+◌, ◌<◌, Bool, true, false, if◌then◌else◌, List, [], ◌∷◌, length, map, slice_index, slice_index_or, count_by}
use Rattle.std.specs.List.{Contains}
use Rattle.std.specs.List.Sorted.{IsStrictlyIncreasing}
use Rattle.spec_ledger.specs.declared.Entry.{Entry}
use Rattle.spec_block.specs.Schedule.{IsEdge}
use Rattle.schedule.specs.Graph.{AreGates}

-- the lock profile of each position, and whether it has ended
pub record Progress : Type 0 where
  pub profiles : List (List Entry)
  pub ended : List Bool

abbrev pub has_ended : Progress → ℕ → Bool
has_ended p position = slice_index_or p.ended position false

-- a predecessor has not ended
abbrev pub IsWaiting : Progress → ℕ → Type 0
IsWaiting p position = (i : ℕ) × IsEdge p.profiles i position × (has_ended p i ≡ false)

-- all its predecessors have ended
abbrev pub IsFree : Progress → ℕ → Type 0
IsFree p position = (i : ℕ) → IsEdge p.profiles i position → has_ended p i ≡ true

-- how often a number stands in a list
abbrev pub count_of : ℕ → List ℕ → ℕ
count_of j js = count_by (λ k. k == j) js

-- how often it stands in these lists together
abbrev pub count_in : List (List ℕ) → ℕ → ℕ
count_in [] j = 0
count_in (s ∷ ss) j = count_of j s + count_in ss j

-- how often in those of them that are not done
abbrev pub pending : List (List ℕ) → List Bool → ℕ → ℕ
pending [] done j = 0
pending (s ∷ ss) [] j = 0
pending (s ∷ ss) (d ∷ ds) j = (if d then 0 else count_of j s) + pending ss ds j

-- those lists of which the count is 0
abbrev pub zeros : List ℕ → List Bool
zeros counts = map (λ n. n == 0) counts

-- by gate how many that hold it shut have not ended, and by position how many gates before it are shut; an ended position has none
pub record IsBoard (profiles : List (List Entry)) (holds behind : List (List ℕ)) (left shut : List ℕ) (ended : List Bool) (ready : List ℕ) : Type 0 where
  pub gates : AreGates profiles holds behind
  pub each_gate : length left ≡ length behind
  pub each_position : length shut ≡ length profiles
  pub each_end : length ended ≡ length profiles
  pub holders : (gate : ℕ) → gate < length behind → slice_index left gate ≡ pending holds ended gate
  pub shut_gates : (j : ℕ) → j < length profiles → slice_index shut j ≡ pending behind (zeros left) j
  pub in_order : (j : ℕ) → slice_index_or ended j false ≡ true → slice_index_or shut j 0 ≡ 0
  pub ready_rises : IsStrictlyIncreasing ready
  pub ready_exact : (j : ℕ) → Contains ready j ↔ ((j < length profiles) × ((i : ℕ) → ¬ (IsEdge profiles i j)))
