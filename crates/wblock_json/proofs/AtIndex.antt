-- The type at an index.
use Rattle.std.proofs.Common.{◌≡◌, ℕ, zero, suc, ◌<◌, ◌≤◌, List, [], ◌∷◌, length, get_or, map, refl, sym, ap, arith}
use Rattle.wtypes.specs.declared.FuncType.{FuncType}
use Rattle.spec_typing.specs.Modules.{type_at}
use Rattle.module_tree.specs.ModuleView.{func_type_view}

pub type_some : {A : Type 0} (types : List (FuncType A)) (n : ℕ) (t : FuncType A) → n < length types → t ≡ get_or types n t → type_at (map func_type_view types) n ≡ func_type_view t
type_some [] n t lt is = absurd (omega (arith, lt))
type_some (u ∷ types) zero t lt is = ap func_type_view (sym is)
type_some (u ∷ types) (suc n) t lt is = type_some types n t (omega (arith, lt)) is

pub type_none : {A : Type 0} (types : List (FuncType A)) (n : ℕ) → length types ≤ n → type_at (map func_type_view types) n ≡ type_at [] 0
type_none [] n le = refl
type_none (u ∷ types) zero le = absurd (omega (arith, le))
type_none (u ∷ types) (suc n) le = type_none types n (omega (arith, le))
