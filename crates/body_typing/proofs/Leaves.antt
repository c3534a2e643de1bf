-- What the checker looks up.
use Rattle.std.proofs.Common.{◌≡◌, ℕ, zero, suc, ◌^◌, ◌≤◌, ◌<◌, ◌&&◌, length, get_or, nat_le, Bool, true, false, List, [], ◌∷◌, Option, Some, None, option_map, option_and_then, Result, reverse, slice_get, map, refl, sym, ap, subst, ◌∙◌, arith, pow_mono}
use Rattle.std.proofs.lemmas.Bool.Decides.{nat_tests}
use Rattle.wtypes.specs.declared.ValType.{ValType}
use Rattle.spec_modules.specs.Syntax as syntax
use Rattle.spec_typing.specs.Modules.{type_at}
use Rattle.spec_typing.specs.Principal.{Stack, same_result, leads, all_lead, arrow}
use Rattle.body_typing.specs.declared.scope.TypeRefusal.{TypeRefusal}
use Rattle.wtypes.specs.declared.FuncType.{FuncType}
use Rattle.body_typing.specs.CheckResults.{Meets}
use Rattle.module_tree.specs.ModuleView.{func_type_view}

pub leads_none : (labels : List (Option ValType)) (block : Option ValType) (n : ℕ) → None ≡ slice_get labels n → false ≡ leads labels block n
leads_none [] block n e = refl
leads_none (r ∷ labels) block zero e = cc
leads_none (r ∷ labels) block (suc n) e = leads_none labels block n e

pub leads_some : (labels : List (Option ValType)) (block : Option ValType) (n : ℕ) (found : Option ValType) → Some found ≡ slice_get labels n → same_result found block ≡ leads labels block n
leads_some [] block n found e = cc
leads_some (r ∷ labels) block zero found e = cc
leads_some (r ∷ labels) block (suc n) found e = leads_some labels block n found e

pub far_aligned : (align width : ℕ) → 4 ≤ align → width < 16 → nat_le (2 ^ align) width ≡ false
far_aligned align width h w = let p : 2 ^ 4 ≤ 2 ^ align = pow_mono h in grind (arith, nat_tests)

pub get_map : {X Y : Type 0} (f : X → Y) (xs : List X) (n : ℕ) → slice_get (map f xs) n ≡ option_map f (slice_get xs n)
get_map f [] n = refl
get_map f (x ∷ xs) zero = refl
get_map f (x ∷ xs) (suc n) = get_map f xs n

pub type_at_some : (types : List syntax.FuncType) (n : ℕ) (type : syntax.FuncType) → slice_get types n ≡ Some type → type_at types n ≡ type
type_at_some [] n type e = cc
type_at_some (t ∷ types) zero type e = cc
type_at_some (t ∷ types) (suc n) type e = type_at_some types n type e

pub type_at_none : (types : List syntax.FuncType) (n : ℕ) → slice_get types n ≡ None → type_at types n ≡ record { params = []; results = [] }
type_at_none [] n e = refl
type_at_none (t ∷ types) zero e = cc
type_at_none (t ∷ types) (suc n) e = type_at_none types n e

pub func_at : (types : List syntax.FuncType) (funcs : List ℕ) (n i : ℕ) → Some i ≡ slice_get funcs n → slice_get (map (type_at types) funcs) n ≡ Some (type_at types i)
func_at types funcs n i e = get_map (type_at types) funcs n ∙ ap (option_map (type_at types)) (sym e)

-- a call at a type of the module, or at none
pub call_meets : {T : Type 0} (r : Result T TypeRefusal) (after s : Stack) (types : List syntax.FuncType) (funcs : List ℕ) (n i : ℕ) (type : syntax.FuncType) → Some i ≡ slice_get funcs n → type_at types i ≡ type →
    Meets r after (arrow (reverse type.params) (reverse type.results) s) → Meets r after (option_and_then (λ type. arrow (reverse type.params) (reverse type.results) s) (slice_get (map (type_at types) funcs) n))
call_meets {T} r after s types funcs n i type e e' h =
    let P : Option syntax.FuncType → Type 0 = λ o. Meets r after (option_and_then (λ type. arrow (reverse type.params) (reverse type.results) s) o) in
    subst P (sym (func_at types funcs n i e ∙ ap Some e')) h

pub type_some : {A : _} (all : List (FuncType A)) (i : ℕ) (s : FuncType A) → Some s ≡ slice_get all i → type_at (map func_type_view all) i ≡ func_type_view s
type_some all i s e = type_at_some (map func_type_view all) i (func_type_view s) (get_map func_type_view all i ∙ ap (option_map func_type_view) (sym e))

pub type_none : {A : _} (all : List (FuncType A)) (i : ℕ) → None ≡ slice_get all i → type_at (map func_type_view all) i ≡ record { params = []; results = [] }
type_none all i e = type_at_none (map func_type_view all) i (get_map func_type_view all i ∙ ap (option_map func_type_view) (sym e))

-- a label that is out of range leads nowhere
pub leads_far : (labels : List (Option ValType)) (block : Option ValType) (n : ℕ) → length labels ≤ n → leads labels block n ≡ false
leads_far [] block n h = refl
leads_far (r ∷ labels) block zero h = absurd (omega arith)
leads_far (r ∷ labels) block (suc n) h = leads_far labels block n (omega arith)

first_false : (a b : Bool) → a ≡ false → (a && b) ≡ false
first_false true b e = cc
first_false false b e = refl

second_false : (a b : Bool) → b ≡ false → (a && b) ≡ false
second_false true b e = e
second_false false b e = refl

pub one_far : (labels : List (Option ValType)) (targets : List ℕ) (i : ℕ) → i < length targets → length labels ≤ get_or targets i 0 → (block : Option ValType) → all_lead labels block targets ≡ false
one_far labels [] i lt h block = absurd (omega arith)
one_far labels (t ∷ targets) zero lt h block = first_false _ _ (leads_far labels block t h)
one_far labels (t ∷ targets) (suc i) lt h block = second_false _ _ (one_far labels targets i (omega arith) h block)

pub type_at_get : {A : _} (all : List (FuncType A)) (i : ℕ) (t : FuncType A) → i < length all → t ≡ get_or all i t → type_at (map func_type_view all) i ≡ func_type_view t
type_at_get [] i t lt e = absurd (omega arith)
type_at_get (u ∷ all) zero t lt e = ap func_type_view (sym e)
type_at_get (u ∷ all) (suc i) t lt e = type_at_get all i t (omega arith) e
