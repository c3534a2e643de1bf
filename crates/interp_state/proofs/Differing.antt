-- Lists of types that differ.
use Rattle.std.proofs.Common.{◌≡◌, ◌≢◌, Bool, true, false, ◌&&◌, List, [], ◌∷◌, length, refl, arith}
use Rattle.wtypes.specs.declared.ValType.{ValType}
use Rattle.spec_modules.specs.Operators.{same_type}
use Rattle.spec_execution.specs.Reduction.{same_types}

pub not_as_long : (ts us : List ValType) → length ts ≢ length us → false ≡ same_types ts us
not_as_long [] [] h = absurd (h refl)
not_as_long [] (u ∷ us) h = refl
not_as_long (t ∷ ts) [] h = refl
not_as_long (t ∷ ts) (u ∷ us) h = of_rest (same_type t u) (same_types ts us) (not_as_long ts us (λ e. h (omega (arith, e))))
  where
    of_rest : (a b : Bool) → false ≡ b → false ≡ (a && b)
    of_rest true b e = e
    of_rest false b e = refl
