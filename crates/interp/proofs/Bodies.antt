-- The bodies of functions, as they are in memory.
use Rattle.std.proofs.Common.{◌≡◌, ◌≢◌, ℕ, ◌-◌, ◌≤◌, Bool, true, false, List, [], ◌∷◌, length, refl, sym, ap, ◌∙◌, arith, Some, None, IsTrue, slice_get}
use Rattle.std.specs.Prelude.{◌==◌, ◌↔◌, not, option_map}
use Rattle.std.proofs.lemmas.Bool.{eqb-true}
use Rattle.wtypes.specs.declared.FuncType.{FuncType}
use Rattle.wtypes.specs.declared.HostCall.{HostCall}
use Rattle.spec_modules.specs.Syntax.{Instrs, nothing}
use Rattle.module_tree.specs.declared.instr.Instr.{Instr}
use Rattle.module_tree.specs.declared.module.Func.{Func}
use Rattle.module_tree.specs.declared.module.Module.{Module}
use Rattle.module_tree.specs.View.{instrs_view}
use Rattle.module_tree.specs.ModuleView.{func_type_view, func_view}
use Rattle.module_tree.specs.Modules.{module_view}
use Rattle.spec_execution.specs.Configuration.{Defined, function_at}
use Rattle.spec_execution.specs.Places.{body_of_function}
use Rattle.laws_reduction.specs.Calling.{function_is}

module _ {A : Type 0} (m : Module A) (hosts : List HostCall) (f : ℕ) (le : length hosts ≤ f) (g : Func A) (e : slice_get m.funcs.items (f - length hosts) ≡ Some g) where
  -- a function of the module's own has its body
  pub own_body : (t : FuncType A) → slice_get m.types.items g.type_index ≡ Some t → instrs_view g.body.items ≡ body_of_function (function_at (record { tree = module_view m; hosts = hosts }) f)
  own_body t h = sym (ap body_of_function (function_is m hosts f (Some g) le e ∙ ap (option_map (λ t. Defined (func_type_view t) (func_view g))) h))

  -- without a type it is none
  pub no_body : slice_get m.types.items g.type_index ≡ None → nothing ≡ body_of_function (function_at (record { tree = module_view m; hosts = hosts }) f)
  no_body h = sym (ap body_of_function (function_is m hosts f (Some g) le e ∙ ap (option_map (λ t. Defined (func_type_view t) (func_view g))) h))

-- whether there are instructions
pub has_some : {A : Type 0} (is : List (Instr A)) (empty : Bool) (body : Instrs) → empty ≡ (length is == 0) → instrs_view is ≡ body → IsTrue (not empty) ↔ (body ≢ nothing)
has_some [] true body e h = (λ no. absurd (cc), λ some. absurd (some (sym h)))
has_some [] false body e h = absurd (cc)
has_some (i ∷ is) true body e h = absurd (omega (arith, eqb-true _ _ (sym e)))
has_some (i ∷ is) false body e h = (λ yes none. (let no : instrs_view (i ∷ is) ≡ nothing = h ∙ none in absurd (cc)), λ some. refl)
