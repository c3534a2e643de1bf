-- The place of the code that is left, read off the parts.
use Rattle.std.proofs.Common.{◌≡◌, ℕ, List, [], ◌∷◌, refl, ap, Option, Some, None, option_map, slice_get, inl, inr}
use Rattle.std.specs.Prelude.{◌⊎◌}
use Rattle.module_tree.specs.declared.instr.Instr.{Instr}
use Rattle.spec_execution.specs.Configuration.{End}
use Rattle.spec_execution.specs.Turns.{place_in}
use Rattle.interp_state.specs.declared.parts.Kind.{Kind}
use Rattle.interp_state.specs.declared.parts.Kind.TheVariants as kind
use Rattle.laws_reduction.specs.Meaning.{Open, listed}
use Rattle.module_tree.specs.View.{ordinal_of}
use Rattle.interp_state.specs.Views.{items_of, scope_of}
use Rattle.interp_state.specs.Innermost.{innermost, function_in, function_of}

-- the place of the first instruction of the code that is left, in the innermost call
pub place_at : {A : Type 0} (f : Option ℕ) (is : List (Instr A)) (i : Instr A) → Some i ≡ slice_get is 0 → place_in f (listed (items_of is) End) ≡ option_map (λ x. (x, ordinal_of i)) f
place_at f [] i e = cc
place_at f (j ∷ js) i e = let same : j ≡ i = cc in ap (λ k. option_map (λ x. (x, ordinal_of k)) f) same

pub place_nowhere : {A : Type 0} (f : Option ℕ) (is : List (Instr A)) → f ≡ None → place_in f (listed (items_of is) End) ≡ None
place_nowhere f [] e = refl
place_nowhere f (i ∷ is) e = ap (option_map (λ x. (x, ordinal_of i))) e

pub function_there : (es : List Open) (o : Open) → Some o ≡ innermost es → function_in es ≡ function_of o.scope
function_there [] o e = cc
function_there (x ∷ es) o e = let same : x ≡ o = cc in ap (λ (k : Open). function_of k.scope) same

pub no_function : (es : List Open) → None ≡ innermost es → function_in es ≡ None
no_function [] e = refl
no_function (x ∷ es) e = cc

pub no_frame : {A : Type 0} (k : Kind A) → (k ≡ kind.Block) ⊎ (k ≡ kind.Loop) → function_of (scope_of k) ≡ None
no_frame k (inl e) = ap (λ (k : Kind _). function_of (scope_of k)) e
no_frame k (inr e) = ap (λ (k : Kind _). function_of (scope_of k)) e
