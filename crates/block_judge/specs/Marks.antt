-- Marks of the calls of an order.
use Rattle.std.specs.Prelude.{◌≡◌, ℕ, Bool, true, false, List, slice_index_or, Contains}

-- whether a call is marked
abbrev pub is_marked : List Bool → ℕ → Bool
is_marked marks call = slice_index_or marks call false

-- just the calls of the order are marked
pub record AreMarked (order : List ℕ) (marks : List Bool) : Type 0 where
  pub marked : (call : ℕ) → is_marked marks call ≡ true → Contains order call
  pub each : (call : ℕ) → Contains order call → is_marked marks call ≡ true
