-- What names and indices stand for, as it is looked up.
use Rattle.std.specs.Prelude.{ℕ, ◌+◌, ◌-◌, ◌^◌, Bool, false, List, [], ◌∷◌, Option, Some, None, option_map, option_and_then, cond}
use Rattle.std.specs.Str.{bytes_eq}
use Rattle.spec_text.specs.Spaces.{Names}
use Rattle.spec_text.specs.FieldsOfBytes as N
use Rattle.lexer.specs.Values.{magnitude_at, capped}

abbrev pub is_name : List ℕ → Option (List ℕ) → Bool
is_name id None = false
is_name id (Some name) = bytes_eq name id

-- the first place that passes
abbrev pub first_at : {X : Type 0} → (X → Bool) → List X → Option ℕ
first_at p [] = None
first_at p (x ∷ xs) = cond (p x) (Some 0) (option_map (λ i. i + 1) (first_at p xs))

-- the first index of a name
abbrev pub find : List ℕ → Names → Option ℕ
find id ns = first_at (is_name id) ns

-- the number of a u32
abbrev pub u32_at : List ℕ → Option ℕ
u32_at text = capped (2 ^ 32 - 1) (magnitude_at text)

-- what an index stands for
abbrev pub stands_at : Names → N.Index → Option ℕ
stands_at names (N.Numbered text) = u32_at text
stands_at names (N.Named id) = find id names

abbrev pub all_stand_at : (N.Index → Option ℕ) → List N.Index → Option (List ℕ)
all_stand_at one [] = Some []
all_stand_at one (i ∷ is) = option_and_then (λ n. option_map (λ ns. n ∷ ns) (all_stand_at one is)) (one i)
