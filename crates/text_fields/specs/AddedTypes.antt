-- Types, where each that is not there is put at the end.
use Rattle.std.specs.Prelude.{◌≡◌, List, [], ◌∷◌, ◌++◌, Option, Some, None, cond, is_some}
use Rattle.spec_modules.specs.Syntax.{FuncType}
use Rattle.spec_text.specs.TypeUses.{Adds}
use Rattle.text_resolve.specs.Types.{first_type}

abbrev pub option_list : {X : Type 0} → Option X → List X
option_list None = []
option_list (Some x) = x ∷ []

abbrev pub added_one : List FuncType → FuncType → List FuncType
added_one ts t = cond (is_some (first_type t ts)) ts (ts ++ t ∷ [])

abbrev pub added : List FuncType → List FuncType → List FuncType
added ts [] = ts
added ts (t ∷ us) = added (added_one ts t) us

-- no types and uses give two lists of types
abbrev pub TypesAreOne : Type 0
TypesAreOne = (declared uses all others : List FuncType) → Adds declared uses all → Adds declared uses others → all ≡ others
