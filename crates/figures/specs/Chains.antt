-- Paths of edges, and what the positions of a path weigh together.
use Rattle.std.specs.Prelude.{◌≡◌, ℕ, ◌+◌, ◌<◌, ◌≤◌, ◌⊎◌, List, [], length, map, slice_index, Contains, Vec}
use Rattle.spec_ledger.specs.declared.Entry.{Entry}
use Rattle.spec_block.specs.Worlds.{Position}
use Rattle.spec_block.specs.Schedule.{IsEdge, IsPath, here, along}

-- the fuel that each position used
abbrev pub fuels_of : List Position → List ℕ
fuels_of positions = map (λ (p : Position). p.receipt.used) positions

-- what the positions of a path weigh together, where `weights` says what each weighs
abbrev pub path_weight : (profiles : List (List Entry)) (weights : List ℕ) (n i j : ℕ) → IsPath profiles n i j → ℕ
path_weight profiles weights _ _ _ (here i) = slice_index weights i
path_weight profiles weights _ _ _ (along n i j k p e) = path_weight profiles weights n i j p + slice_index weights k

-- each edge goes forward in the order
abbrev pub AreForward : List (List Entry) → Type 0
AreForward profiles = (i j : ℕ) → IsEdge profiles i j → i < j

-- the greatest weight of a path to a position: one path has it, and none has more
pub record IsHeaviest (profiles : List (List Entry)) (weights : List ℕ) (position weight : ℕ) : Type 0 where
  pub edges : ℕ
  pub from : ℕ
  pub path : IsPath profiles edges from position
  pub reached : path_weight profiles weights edges from position path ≡ weight
  pub most : (n i : ℕ) (p : IsPath profiles n i position) → path_weight profiles weights n i position p ≤ weight

-- each of these is the greatest weight of a path to its position
abbrev pub AreHeavy : List (List Entry) → List ℕ → List ℕ → Type 0
AreHeavy profiles weights sums = (i : ℕ) → i < length profiles → IsHeaviest profiles weights i (slice_index sums i)

abbrev pub AreHeaviest : {A : Type 0} → List (List Entry) → List ℕ → Vec ℕ A → Type 0
AreHeaviest profiles weights sums = AreHeavy profiles weights sums.items

-- the greatest weight of a path anywhere
pub record IsChain (profiles : List (List Entry)) (weights : List ℕ) (weight : ℕ) : Type 0 where
  pub edges : ℕ
  pub from : ℕ
  pub to : ℕ
  pub path : IsPath profiles edges from to
  pub reached : path_weight profiles weights edges from to path ≡ weight
  pub most : (n i j : ℕ) (p : IsPath profiles n i j) → path_weight profiles weights n i j p ≤ weight

-- the greatest of these, or 0 where there are none
pub record IsGreatest (numbers : List ℕ) (most : ℕ) : Type 0 where
  pub above : (n : ℕ) → Contains numbers n → n ≤ most
  pub reached : ((numbers ≡ []) × (most ≡ 0)) ⊎ Contains numbers most
