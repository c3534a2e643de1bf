-- What contracts see of a graph, and the gates that it keeps.
use Rattle.std.specs.Prelude.{◌≡◌, ◌↔◌, ◌<◌, ◌^◌, ℕ, List, [], ◌∷◌, ◌++◌, length, slice_index_or}
use Rattle.std.specs.List.{Contains}
use Rattle.std.specs.List.Sorted.{IsStrictlyIncreasing}
use Rattle.spec_ledger.specs.declared.Entry.{Entry}
use Rattle.spec_block.specs.Schedule.{IsEdge}

-- for each position its lock profile, and its wave
pub record Layered : Type 0 where
  pub profiles : List (List Entry)
  pub waves : List ℕ

-- one of several lists
abbrev pub list_at : List (List ℕ) → ℕ → List ℕ
list_at lists place = slice_index_or lists place []

-- what stands in the lists at these places, one list after the other
abbrev pub gathered : List (List ℕ) → List ℕ → List ℕ
gathered lists [] = []
gathered lists (place ∷ places) = list_at lists place ++ gathered lists places

-- the first holds a gate shut that the second stands behind
abbrev pub IsThrough : List (List ℕ) → List (List ℕ) → ℕ → ℕ → Type 0
IsThrough holds behind i j = (gate : ℕ) × Contains (list_at holds i) gate × Contains (list_at behind gate) j

-- by position the gates that it holds shut, and by gate the positions behind it: through them go the edges, and nothing else
pub record AreGates (profiles : List (List Entry)) (holds behind : List (List ℕ)) : Type 0 where
  pub few : length profiles < 2 ^ 16
  pub each : length holds ≡ length profiles
  pub few_gates : length behind < 2 ^ 32
  pub gates_rise : (i : ℕ) → IsStrictlyIncreasing (list_at holds i)
  pub positions_rise : (gate : ℕ) → IsStrictlyIncreasing (list_at behind gate)
  pub gates : (i gate : ℕ) → Contains (list_at holds i) gate → gate < length behind
  pub positions : (gate j : ℕ) → Contains (list_at behind gate) j → j < length profiles
  pub edges : (i j : ℕ) → IsThrough holds behind i j ↔ IsEdge profiles i j
