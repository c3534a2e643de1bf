-- The functions of a linked module: those of its index space are there, with their types, and their bodies are typed.
use Rattle.std.proofs.Common.{◌≡◌, ℕ, zero, suc, ◌+◌, ◌-◌, ◌≤◌, ◌<◌, Bool, true, false, cond, nat_lt, List, [], ◌∷◌, ◌++◌, length, map, reverse, refl, sym, ap, ◌∙◌, subst, arith, Option, Some, None, slice_get}
use Rattle.std.specs.List.{cons_option}
use Rattle.std.specs.Prelude.{filter_map, option_map, option_and_then}
use Rattle.std.proofs.lemmas.Bool.{lt-ltb, le-ltb}
use Rattle.wtypes.specs.declared.ValType.{ValType}
use Rattle.wtypes.specs.declared.HostCall.{HostCall}
use Rattle.spec_modules.specs.Profile.{host_type}
use Rattle.spec_modules.specs.Syntax.{ImportDesc, Import, FuncType, Func}
use Rattle.spec_typing.specs.Typing.{Typed, of}
use Rattle.spec_typing.specs.Modules.{func_of, global_of, func_type_indices, type_at, result_of, spaces_of, context_of, BodyTyped}
use Rattle.spec_typing.specs.Linking.{Resolves, IsLinked}
use Rattle.spec_execution.specs.Configuration.{Deployed, Function, Hosted, Defined, defined, function_at, function_type}
use Rattle.spec_execution.specs.Reduction.{arity}
use Rattle.laws_soundness.proofs.Executing.{all_at}

-- ---- lists

get_there : {X : Type 0} (xs : List X) (n : ℕ) → n < length xs → (x : X) × (slice_get xs n ≡ Some x)
get_there [] n lt = absurd (omega arith)
get_there (x ∷ xs) zero lt = (x, refl)
get_there (x ∷ xs) (suc n) lt = get_there xs n (omega arith)

get_mapped : {X Y : Type 0} (f : X → Y) (xs : List X) (n : ℕ) (y : Y) → slice_get (map f xs) n ≡ Some y → (x : X) × (slice_get xs n ≡ Some x) × (f x ≡ y)
get_mapped f [] n y e = absurd (cc)
get_mapped f (x ∷ xs) zero y e = let same : f x ≡ y = cc in (x, refl, same)
get_mapped f (x ∷ xs) (suc n) y e = get_mapped f xs n y e

get_below : {X : Type 0} (xs : List X) (n : ℕ) (x : X) → slice_get xs n ≡ Some x → n < length xs
get_below [] n x e = absurd (cc)
get_below (y ∷ xs) zero x e = omega arith
get_below (y ∷ xs) (suc n) x e = let lt = get_below xs n x e in omega arith

type_is : (types : List FuncType) (n : ℕ) (t : FuncType) → slice_get types n ≡ Some t → type_at types n ≡ t
type_is [] n t e = absurd (cc)
type_is (u ∷ types) zero t e = cc
type_is (u ∷ types) (suc n) t e = type_is types n t e

type_there : (types : List FuncType) (n : ℕ) → n < length types → slice_get types n ≡ Some (type_at types n)
type_there [] n lt = absurd (omega arith)
type_there (u ∷ types) zero lt = refl
type_there (u ∷ types) (suc n) lt = type_there types n (omega arith)

-- ---- the index space of functions

-- what stands at a place of it
data At (types : List FuncType) (hosts : List HostCall) (funcs : List Func) (n : ℕ) (index : ℕ) : Type 0 where
  imported : (h : HostCall) → n < length hosts → slice_get hosts n ≡ Some h → slice_get types index ≡ Some (host_type h) → At types hosts funcs n index
  own : (k : ℕ) (f : Func) → n ≡ length hosts + k → slice_get funcs k ≡ Some f → f.type_index ≡ index → At types hosts funcs n index

shifted : (types : List FuncType) (h : HostCall) (hosts : List HostCall) (funcs : List Func) (n : ℕ) (index : ℕ) → At types hosts funcs n index → At types (h ∷ hosts) funcs (suc n) index
shifted types h hosts funcs n index (imported g lt e t) = imported g (omega arith) e t
shifted types h hosts funcs n index (own k f e g t) = own k f (omega (arith, e)) g t

places : (types : List FuncType) (imports : List Import) (hosts : List HostCall) (funcs : List Func) (n : ℕ) (index : ℕ) → Resolves types imports hosts →
    slice_get (filter_map (λ i. func_of i.desc) imports ++ map (λ f. f.type_index) funcs) n ≡ Some index → At types hosts funcs n index
places types [] [] funcs n index r e = let (f, g, t) = get_mapped (λ f. f.type_index) funcs n index e in own n f (omega arith) g t
places types [] (h ∷ hosts) funcs n index r e = absurd r
places types (i ∷ imports) [] funcs n index r e = absurd r
places types (i ∷ imports) (h ∷ hosts) funcs n index ((names, (j, is, t)), r) e =
    at n (ap (λ (desc : ImportDesc). slice_get (cons_option (func_of desc) (filter_map (λ i. func_of i.desc) imports) ++ map (λ f. f.type_index) funcs) n) (sym is) ∙ e) (λ k. places types imports hosts funcs k index r)
  where
    at : (n : ℕ) → slice_get (j ∷ (filter_map (λ i. func_of i.desc) imports ++ map (λ f. f.type_index) funcs)) n ≡ Some index → ((k : ℕ) → slice_get (filter_map (λ i. func_of i.desc) imports ++ map (λ f. f.type_index) funcs) k ≡ Some index → At types hosts funcs k index) → At types (h ∷ hosts) funcs n index
    at zero e again = let same : j ≡ index = cc in imported h (omega arith) refl (ap (slice_get types) (sym same) ∙ t)
    at (suc k) e again = shifted types h hosts funcs k index (again k e)

-- linked modules import functions alone
pub no_globals : (types : List FuncType) (imports : List Import) (hosts : List HostCall) → Resolves types imports hosts → filter_map (λ i. global_of i.desc) imports ≡ []
no_globals types [] [] r = refl
no_globals types [] (h ∷ hosts) r = absurd r
no_globals types (i ∷ imports) [] r = absurd r
no_globals types (i ∷ imports) (h ∷ hosts) ((names, (j, is, t)), r) = ap (λ (desc : ImportDesc). cons_option (global_of desc) (filter_map (λ i. global_of i.desc) imports)) is ∙ no_globals types imports hosts r

-- ---- the functions themselves

pub result_again : (ts : List ValType) → length ts ≤ 1 → of (result_of ts) ≡ ts
result_again [] le = refl
result_again (t ∷ []) le = refl
result_again (t ∷ u ∷ ts) le = absurd (omega arith)

pub reverse_again : (ts : List ValType) → length ts ≤ 1 → reverse ts ≡ ts
reverse_again [] le = refl
reverse_again (t ∷ []) le = refl
reverse_again (t ∷ u ∷ ts) le = absurd (omega arith)

pub arity_is : (ts : List ValType) → length ts ≤ 1 → length ts ≡ arity (result_of ts)
arity_is [] le = refl
arity_is (t ∷ []) le = refl
arity_is (t ∷ u ∷ ts) le = absurd (omega arith)

cond_true : {X : Type 0} (b : Bool) (x y : X) → b ≡ true → cond b x y ≡ x
cond_true b x y e = ap (λ b. cond b x y) e

cond_false : {X : Type 0} (b : Bool) (x y : X) → b ≡ false → cond b x y ≡ y
cond_false b x y e = ap (λ b. cond b x y) e

hosted_is : (o : Option HostCall) (t : FuncType) (g : Func) → option_map Hosted o ≡ Some (Defined t g) → ⊥
hosted_is None t g e = absurd (cc)
hosted_is (Some h) t g e = let same : Hosted h ≡ Defined t g = cc in absurd (cc)

defined_is : (o : Option FuncType) (f : Func) (t : FuncType) (g : Func) → option_map (λ t. Defined t f) o ≡ Some (Defined t g) → (o ≡ Some t) × (f ≡ g)
defined_is None f t g e = absurd (cc)
defined_is (Some u) f t g e = let same : Defined u f ≡ Defined t g = cc in let type : u ≡ t = cc in let func : f ≡ g = cc in (ap Some type, func)

module _ (d : Deployed) (linked : IsLinked d.tree d.hosts) where
  -- each function of the index space is there, with its type
  function_there : (n index : ℕ) → At d.tree.types d.hosts d.tree.funcs n index → index < length d.tree.types → (g : Function) × (function_at d n ≡ Some g) × (function_type g ≡ type_at d.tree.types index)
  function_there n index (imported h lt e t) le = (Hosted h, cond_true _ _ _ (lt-ltb n (length d.hosts) lt) ∙ ap (option_map Hosted) e, sym (type_is d.tree.types index (host_type h) t))
  function_there n index (own k f e g t) le =
      let place : n - length d.hosts ≡ k = omega (arith, e) in
      let here : slice_get d.tree.funcs (n - length d.hosts) ≡ Some f = ap (slice_get d.tree.funcs) place ∙ g in
      let type : slice_get d.tree.types f.type_index ≡ Some (type_at d.tree.types index) = ap (slice_get d.tree.types) t ∙ type_there d.tree.types index le in
      (Defined (type_at d.tree.types index) f, cond_false _ _ _ (le-ltb n (length d.hosts) (omega (arith, e))) ∙ ap (option_and_then (defined d.tree)) here ∙ ap (option_map (λ t. Defined t f)) type, refl)

  at_index : (n index : ℕ) → slice_get (func_type_indices d.tree) n ≡ Some index → (g : Function) × (function_at d n ≡ Some g) × (function_type g ≡ type_at d.tree.types index)
  at_index n index e = function_there n index (places d.tree.types d.tree.imports d.hosts d.tree.funcs n index linked.imports e) (all_at (λ i. i < length d.tree.types) (func_type_indices d.tree) n index linked.typed.type_indices e)

  pub called : (n : ℕ) (type : FuncType) → slice_get (map (type_at d.tree.types) (func_type_indices d.tree)) n ≡ Some type → (g : Function) × (function_at d n ≡ Some g) × (function_type g ≡ type)
  called n type e = let (index, at, is) = get_mapped (type_at d.tree.types) (func_type_indices d.tree) n type e in let (g, there, typed) = at_index n index at in (g, there, typed ∙ is)

  pub in_range : (n : ℕ) → n < length (func_type_indices d.tree) → (g : Function) × (function_at d n ≡ Some g)
  in_range n lt = let (index, at) = get_there (func_type_indices d.tree) n lt in let (g, there, typed) = at_index n index at in (g, there)

  pub starts : (n index : ℕ) (type : FuncType) → slice_get (func_type_indices d.tree) n ≡ Some index → slice_get d.tree.types index ≡ Some type → (g : Function) × (function_at d n ≡ Some g) × (function_type g ≡ type)
  starts n index type e t = let (g, there, typed) = at_index n index e in (g, there, typed ∙ type_is d.tree.types index type t)

  -- a function of the module has one result at most, and its body is typed
  pub record IsBody (t : FuncType) (g : Func) : Type 0 where
    pub one_result : length t.results ≤ 1
    pub body : Typed (context_of (spaces_of d.tree) t g.locals) g.body [] (of (result_of t.results))

  body_at : (k : ℕ) (f : Func) (t : FuncType) → slice_get d.tree.funcs k ≡ Some f → slice_get d.tree.types f.type_index ≡ Some t → IsBody t f
  body_at k f t e g = record {
    one_result = all_at (λ t. length t.results ≤ 1) d.tree.types f.type_index t linked.typed.one_result g;
    body = subst (λ (t : FuncType). Typed (context_of (spaces_of d.tree) t f.locals) f.body [] (of (result_of t.results))) (type_is d.tree.types f.type_index t g) (all_at (BodyTyped (spaces_of d.tree)) d.tree.funcs k f linked.typed.bodies e);
  }

  body_in : (k : ℕ) (o : Option Func) (t : FuncType) (g : Func) → slice_get d.tree.funcs k ≡ o → option_and_then (defined d.tree) o ≡ Some (Defined t g) → IsBody t g
  body_in k None t g here e = absurd (cc)
  body_in k (Some f) t g here e = let (type, func) = defined_is (slice_get d.tree.types f.type_index) f t g e in subst (λ (f : Func). IsBody t f) func (body_at k f t here type)

  by_test : (n : ℕ) (b : Bool) (t : FuncType) (g : Func) →
      cond b (option_map Hosted (slice_get d.hosts n)) (option_and_then (defined d.tree) (slice_get d.tree.funcs (n - length d.hosts))) ≡ Some (Defined t g) → IsBody t g
  by_test n true t g e = absurd (hosted_is (slice_get d.hosts n) t g e)
  by_test n false t g e = body_in (n - length d.hosts) (slice_get d.tree.funcs (n - length d.hosts)) t g refl e

  pub body_of : (n : ℕ) (t : FuncType) (g : Func) → function_at d n ≡ Some (Defined t g) → IsBody t g
  body_of n t g e = by_test n (nat_lt n (length d.hosts)) t g e
