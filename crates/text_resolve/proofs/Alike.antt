-- Equal types.
use Rattle.std.proofs.Common.{◌≡◌, ◌≢◌, Bool, true, false, ◌&&◌, List, [], ◌∷◌, length, refl, ap₂, arith}
use Rattle.wtypes.specs.declared.ValType.{ValType}
use Rattle.wtypes.specs.declared.ValType.TheVariants.{I32, I64}
use Rattle.spec_modules.specs.Syntax.{FuncType}
use Rattle.spec_modules.specs.Limits.{both, first, second}
use Rattle.spec_modules.specs.Operators.{same_type}
use Rattle.text_resolve.specs.Types.{same_types, same_func}

type_same : (t : ValType) → same_type t t ≡ true
type_same I32 = refl
type_same I64 = refl

type_is : (t u : ValType) → same_type t u ≡ true → t ≡ u
type_is I32 I32 e = refl
type_is I32 I64 e = absurd (cc)
type_is I64 I32 e = absurd (cc)
type_is I64 I64 e = refl

pub types_same : (ts : List ValType) → same_types ts ts ≡ true
types_same [] = refl
types_same (t ∷ ts) = both (same_type t t) (same_types ts ts) (type_same t) (types_same ts)

pub types_are : (ts us : List ValType) → same_types ts us ≡ true → ts ≡ us
types_are [] [] e = refl
types_are [] (u ∷ us) e = absurd (cc)
types_are (t ∷ ts) [] e = absurd (cc)
types_are (t ∷ ts) (u ∷ us) e = ap₂ (λ x xs. x ∷ xs) (type_is t u (first (same_type t u) (same_types ts us) e)) (types_are ts us (second (same_type t u) (same_types ts us) e))

pub func_same : (t : FuncType) → same_func t t ≡ true
func_same t = both (same_types t.params t.params) (same_types t.results t.results) (types_same t.params) (types_same t.results)

pub func_is : (t u : FuncType) → same_func t u ≡ true → t ≡ u
func_is t u e =
    ap₂ (λ ps rs. record { params = ps; results = rs }) (types_are t.params u.params (first (same_types t.params u.params) (same_types t.results u.results) e))
    (types_are t.results u.results (second (same_types t.params u.params) (same_types t.results u.results) e))

off : (b : Bool) (c : Bool) → false ≡ c → false ≡ (b && c)
off true c e = e
off false c e = refl

pub not_as_long : (ts us : List ValType) → length ts ≢ length us → false ≡ same_types ts us
not_as_long [] [] h = absurd (h refl)
not_as_long [] (u ∷ us) h = refl
not_as_long (t ∷ ts) [] h = refl
not_as_long (t ∷ ts) (u ∷ us) h = off (same_type t u) (same_types ts us) (not_as_long ts us (λ e. h (omega (arith, e))))
