-- Operands are taken where none is known: all may be there, or none is.
use Rattle.std.proofs.Common.{◌≡◌, ◌<◌, Bool, true, false, List, [], ◌∷◌, Option, Some, None, length, option_map, refl, sym, ap, ap₂, ◌∙◌, arith}
use Rattle.wtypes.specs.declared.ValType.{ValType}
use Rattle.spec_typing.specs.Principal.{Stack, Operand, guard, pop_types, arrow}

all_pass : (ts : List ValType) → pop_types ts true [] ≡ Some []
all_pass [] = refl
all_pass (t ∷ ts) = all_pass ts

none_passes : (ts : List ValType) → 0 < length ts → pop_types ts false [] ≡ None
none_passes [] lt = absurd (omega (arith, lt))
none_passes (t ∷ ts) lt = refl

pub none_known : (any : Bool) (s old : Stack) (ts all : List ValType) → s.top ≡ [] → s.any_below ≡ old.any_below → any ≡ s.any_below → 0 < length ts →
    pop_types ts old.any_below s.top ≡ pop_types all old.any_below old.top → guard any s ≡ arrow all [] old
none_known any s old ts all none same is lt so_far = at any (is ∙ same) refl
  where
    popped : (b : Bool) → b ≡ old.any_below → pop_types ts b [] ≡ pop_types all old.any_below old.top
    popped b e = ap₂ (pop_types ts) e (sym none) ∙ so_far

    make : Bool → List Operand → Option Stack
    make any top = Some (record { any_below = any; top = top })

    rebuilt : Some s ≡ Some (record { any_below = old.any_below; top = [] })
    rebuilt = ap₂ make same none

    at : (b : Bool) → b ≡ old.any_below → any ≡ b → guard any s ≡ arrow all [] old
    at true e f = ap (λ b. guard b s) f ∙ (rebuilt ∙ ap (option_map (λ (rest : List Operand). record { any_below = old.any_below; top = rest })) (sym (all_pass ts) ∙ popped true e))
    at false e f = ap (λ b. guard b s) f ∙ ap (option_map (λ (rest : List Operand). record { any_below = old.any_below; top = rest })) (sym (none_passes ts lt) ∙ popped false e)
