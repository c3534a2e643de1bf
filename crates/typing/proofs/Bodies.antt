-- Steps of the loop over bodies.
use Rattle.std.proofs.Common.{◌≡◌, ℕ, zero, suc, ◌+◌, ◌<◌, nat_lt, Bool, true, false, ◌&&◌, List, [], ◌∷◌, map, length, get_or, drop, Err, refl, sym, ap, ◌∙◌, arith}
use Rattle.std.specs.List.{list_all}
use Rattle.std.proofs.lemmas.List.{drop_more}
use Rattle.std.proofs.lemmas.Bool.Decides.{nat_tests}
use Rattle.spec_typing.specs.Modules.{Spaces, BodyTyped, ModuleTyped}
use Rattle.spec_typing.proofs.Sound.{both}
use Rattle.spec_modules.specs.Syntax as syntax
use Rattle.module_tree.specs.declared.module.Func.{Func}
use Rattle.module_tree.specs.ModuleView.{func_view}
use Rattle.body_typing.specs.CheckResults.{Tells}
use Rattle.body_typing.specs.declared.scope.TypeRefusal.{TypeRefusal}
use Rattle.body_typing.specs.declared.scope.TypeRefusal.TheVariants.{At, NoMemory}
use Rattle.typing.specs.Tests.{func_passes, body_passes, module_passes}
use Rattle.typing.specs.CheckResults.{JudgedBy, Denies}
use Rattle.typing.proofs.Decides.{body_of, of_body, of_typed}

not_passed : (b : Bool) → (b ≡ true → ⊥) → b ≡ false
not_passed true h = absurd (h refl)
not_passed false h = refl

-- each function's type is there
pub type_of_func : {A : Type 0} (types : ℕ) (funcs : List (Func A)) (i : ℕ) (f : Func A) → list_all (func_passes types) (map func_view funcs) ≡ true → i < length funcs → f ≡ get_or funcs i f → f.type_index < types
type_of_func types [] i f e lt at = absurd (omega arith)
type_of_func types (g ∷ funcs) zero f e lt at =
    let p = both (func_passes types (func_view g)) (list_all (func_passes types) (map func_view funcs)) e in
    let h : nat_lt f.type_index types ≡ true = ap (λ (g : Func _). nat_lt g.type_index types) at ∙ p.0 in
    grind (arith, nat_tests)
type_of_func types (g ∷ funcs) (suc i) f e lt at = type_of_func types funcs i f (both (func_passes types (func_view g)) (list_all (func_passes types) (map func_view funcs)) e).1 (omega arith) at

module _ {A : Type 0} (spaces : Spaces) (funcs : List (Func A)) (i : ℕ) (f : Func A) (lt : i < length funcs) (at : f ≡ get_or funcs i f) where
  here : list_all (body_passes spaces) (map func_view (drop i funcs)) ≡ (body_passes spaces (func_view f) && list_all (body_passes spaces) (map func_view (drop (i + 1) funcs)))
  here = ap (λ fs. list_all (body_passes spaces) (map func_view fs)) (drop_more funcs i f lt ∙ ap (λ g. g ∷ drop (i + 1) funcs) (sym at))

  pub passed_at : list_all (body_passes spaces) (map func_view (drop i funcs)) ≡ list_all (body_passes spaces) (map func_view funcs) → BodyTyped spaces (func_view f) →
      list_all (body_passes spaces) (map func_view (drop (i + 1) funcs)) ≡ list_all (body_passes spaces) (map func_view funcs)
  passed_at same t = sym (first (body_passes spaces (func_view f)) (list_all (body_passes spaces) (map func_view (drop (i + 1) funcs))) (of_body spaces (func_view f) t)) ∙ (sym here ∙ same)
    where
      first : (a b : Bool) → a ≡ true → (a && b) ≡ b
      first true b e = refl
      first false b e = cc

  pub refused_at : (T U : Type 0) (e : TypeRefusal) → list_all (body_passes spaces) (map func_view (drop i funcs)) ≡ list_all (body_passes spaces) (map func_view funcs) →
      Tells {T = T} (Err e) (BodyTyped spaces (func_view f)) → JudgedBy {T = U} (Err e) (list_all (body_passes spaces) (map func_view funcs))
  refused_at T U NoMemory same h = tt
  refused_at T U (At a b k) same h = sym same ∙ (here ∙ first (body_passes spaces (func_view f)) (list_all (body_passes spaces) (map func_view (drop (i + 1) funcs))) (not_passed _ (λ e. h (body_of spaces (func_view f) e))))
    where
      first : (a b : Bool) → a ≡ false → (a && b) ≡ false
      first true b e = cc
      first false b e = refl

-- a refused module is not typed
pub denied : (T : Type 0) (e : TypeRefusal) (m : syntax.Module) → JudgedBy {T = T} (Err e) (module_passes m) → Denies e (ModuleTyped m)
denied T NoMemory m h = tt
denied T (At a b k) m h = λ t. never (module_passes m) (of_typed m t) h
  where
    never : (b : Bool) → b ≡ true → b ≡ false → ⊥
    never true p q = cc
    never false p q = cc
