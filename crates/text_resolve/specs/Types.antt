-- The types that type uses stand for, as they are looked up.
use Rattle.std.specs.Prelude.{ℕ, Bool, true, false, ◌&&◌, ◌||◌, List, [], ◌∷◌, Option, Some, None, option_and_then, cond, slice_get}
use Rattle.wtypes.specs.declared.ValType.{ValType}
use Rattle.spec_modules.specs.Syntax.{FuncType}
use Rattle.spec_modules.specs.Operators.{same_type}
use Rattle.spec_text.specs.FieldsOfBytes as N
use Rattle.spec_text.specs.Spaces.{Names}
use Rattle.spec_text.specs.TypeUses.{written_type}
use Rattle.text_resolve.specs.Lookup.{first_at, stands_at}

abbrev pub same_types : List ValType → List ValType → Bool
same_types [] [] = true
same_types [] (u ∷ us) = false
same_types (t ∷ ts) [] = false
same_types (t ∷ ts) (u ∷ us) = same_type t u && same_types ts us

abbrev pub same_func : FuncType → FuncType → Bool
same_func t u = same_types t.params u.params && same_types t.results u.results

-- the first equal type
abbrev pub first_type : FuncType → List FuncType → Option ℕ
first_type t us = first_at (λ u. same_func u t) us

abbrev pub is_empty : {X : Type 0} → List X → Bool
is_empty [] = true
is_empty (x ∷ xs) = false

-- nothing is written beside an index
abbrev pub is_bare : N.TypeUse → Bool
is_bare w = is_empty w.params && is_empty w.results

-- the type of this number, if it is the one that is written
abbrev pub given : List FuncType → N.TypeUse → ℕ → Option ℕ
given types w n = option_and_then (λ t. cond (is_bare w || same_func t (written_type w)) (Some n) None) (slice_get types n)

abbrev pub by_index : Names → List FuncType → N.TypeUse → Option N.Index → Option ℕ
by_index names types w None = first_type (written_type w) types
by_index names types w (Some i) = option_and_then (given types w) (stands_at names i)

-- the number of the type that is written
abbrev pub use_at : Names → List FuncType → N.TypeUse → Option ℕ
use_at names types w = by_index names types w w.index
