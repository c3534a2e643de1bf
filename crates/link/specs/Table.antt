-- The elements of a table that are not empty, in rising order.
use Rattle.std.specs.Prelude.{ℕ, ◌+◌, ◌≤◌, ◌==◌, if◌then◌else◌, List, [], ◌∷◌, Option, Some, None, map}
use Rattle.std.specs.List.{range_with_len}
use Rattle.link.specs.declared.table.Filled.{Filled}

-- the function that an element is, by those that are not empty
abbrev pub held : List Filled → ℕ → Option ℕ
held [] element = None
held (f ∷ fs) element = if f.element == element then Some f.func else held fs element

-- they rise, from an element on
abbrev pub AreRising : ℕ → List Filled → Type 0
AreRising low [] = Unit {0}
AreRising low (f ∷ fs) = (low ≤ f.element) × AreRising (f.element + 1) fs

-- a table of so many elements
abbrev pub elements_in : ℕ → List Filled → List (Option ℕ)
elements_in size filled = map (held filled) (range_with_len 0 size)
