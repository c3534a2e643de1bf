-- The words without `--quiet`.
use Rattle.std.specs.Prelude.{ℕ, List, [], ◌∷◌, Bool, true, false, codes, if◌then◌else◌}
use Rattle.std.specs.Str.{bytes_eq}

abbrev pub is_quiet : List ℕ → Bool
is_quiet word = bytes_eq word (codes "--quiet")

-- the words that are not `--quiet`, in their order
abbrev pub others : List (List ℕ) → List (List ℕ)
others [] = []
others (w ∷ ws) = if is_quiet w then others ws else w ∷ others ws

-- `--quiet` stands among the words
abbrev pub has_quiet : List (List ℕ) → Bool
has_quiet [] = false
has_quiet (w ∷ ws) = if is_quiet w then true else has_quiet ws
