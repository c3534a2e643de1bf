-- What is said while calls run.
use Rattle.std.specs.Prelude.{ℕ, List, [], ◌∷◌, ◌++◌, codes, decimal}

-- to the beginning of the line, which is cleared
abbrev pub wipe : List ℕ
wipe = 13 ∷ 27 ∷ 91 ∷ 75 ∷ []

-- `calls begun: N`, in the place of what stands there
abbrev pub begun_line : ℕ → List ℕ
begun_line begun = wipe ++ codes "calls begun: " ++ decimal begun

-- `earlier calls run with up to N of fuel; --fuel N bounds it`, in the place of what stands there
abbrev pub earlier_line : ℕ → List ℕ
earlier_line fuel = wipe ++ codes "earlier calls run with up to " ++ decimal fuel ++ codes " of fuel; --fuel N bounds it"
