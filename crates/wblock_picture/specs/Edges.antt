-- The first edges of a graph.
use Rattle.std.specs.Prelude.{◌≡◌, ℕ, ◌<◌, ◌≤◌, ◌⊎◌, Bool, true, false, List, [], ◌∷◌, ◌++◌, length, nat_lt, if◌then◌else◌}
use Rattle.std.specs.List.{Contains}
use Rattle.spec_ledger.specs.declared.Entry.{Entry}
use Rattle.spec_block.specs.Schedule.{IsEdge}
use Rattle.wblock_picture.specs.declared.edge.Edge.{Edge}
use Rattle.wblock_picture.specs.declared.scene.TheConstants.{MOST_LINES}

-- edges between the first n positions: all of them, or as many as have a line
pub record AreEdges (profiles : List (List Entry)) (n : ℕ) (all : Bool) (list : List Edge) : Type 0 where
  pub each : (e : Edge) → Contains list e → IsEdge profiles e.before e.after
  pub within : (e : Edge) → Contains list e → (e.before < n) × (e.after < n)
  pub few : length list ≤ MOST_LINES
  pub complete : all ≡ true → (i j : ℕ) → i < n → j < n → IsEdge profiles i j → Contains list (record { before = i; after = j })
  pub full : all ≡ false → length list ≡ MOST_LINES

-- one more, where it goes to one of the first n positions
abbrev pub with_edge : Edge → ℕ → List Edge → List Edge
with_edge e n list = if nat_lt e.after n then list ++ e ∷ [] else list

-- those from one position to these successors were added, as long as there was room
pub record AddsEdges (before : ℕ) (successors : List ℕ) (n : ℕ) (all : Bool) (old new : List Edge) : Type 0 where
  pub kept : (e : Edge) → Contains old e → Contains new e
  pub each : (e : Edge) → Contains new e → Contains old e ⊎ ((e.before ≡ before) × Contains successors e.after × (e.after < n))
  pub complete : all ≡ true → (j : ℕ) → Contains successors j → j < n → Contains new (record { before = before; after = j })
  pub few : length old ≤ MOST_LINES → length new ≤ MOST_LINES
  pub full : all ≡ false → MOST_LINES ≤ length new
