-- Lines of things that are numbered.
use Rattle.std.specs.Prelude.{ℕ, ◌+◌, List, [], ◌∷◌, ◌++◌}

-- the line of each, the number of the first being n
abbrev pub numbered : {X : Type 0} → (ℕ → X → List ℕ) → ℕ → List X → List ℕ
numbered line n [] = []
numbered line n (x ∷ xs) = line n x ++ numbered line (n + 1) xs
