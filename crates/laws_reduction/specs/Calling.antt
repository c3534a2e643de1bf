-- A call of a function of the module is a free reduction.
use Rattle.std.proofs.Common.{◌≡◌, ℕ, zero, suc, ◌+◌, ◌-◌, ◌<◌, ◌≤◌, Bool, true, false, nat_le, List, [], ◌∷◌, ◌++◌, length, map, reverse, take, drop, refl, sym, ap, ◌∙◌, subst, arith, Option, Some, None, slice_get, length-append, append_assoc}
use Rattle.std.specs.Prelude.{if◌then◌else◌, option_map, option_and_then}
use Rattle.std.proofs.lemmas.Bool.{le-ltb, lt-ltb, leb-true, le-leb}
use Rattle.std.proofs.lemmas.List.{take-append-le, reverse-append, length-take, length-drop, take-append-drop}
use Rattle.std.proofs.Math.Seq.{take-append_seam, drop-append_seam, take-length}
use Rattle.wtypes.specs.declared.HostCall.{HostCall}
use Rattle.wtypes.specs.declared.FuncType.{FuncType}
use Rattle.wtypes.specs.declared.Value.{Value}
use Rattle.wtypes.specs.declared.TrapCode.TheVariants.{CallDepth}
use Rattle.spec_ledger.specs.declared.Version.{Version}
use Rattle.spec_modules.specs.Syntax as syntax
use Rattle.module_tree.specs.declared.module.Func.{Func}
use Rattle.module_tree.specs.declared.module.Module.{Module}
use Rattle.module_tree.specs.ModuleView.{func_type_view, func_view}
use Rattle.module_tree.specs.Modules.{module_view}
use Rattle.spec_execution.specs.Configuration.{Contract, Function, Defined, Hosted, defined, function_at, function_type, Seq, End, State, Config, Running, Trap, code, values, Label, Invoke}
use Rattle.spec_execution.specs.Configuration as cfg
use Rattle.spec_execution.specs.Reduction.{Next, Goes, Traps, Stuck, reduce, found, with_values, invoke, zero_of}
use Rattle.spec_execution.specs.Run.{Reduces}
use Rattle.laws_reduction.specs.Meaning.{Item, Scope, Begins, Frame, Open, listed, numbered, item, outer, height, frames, outermost, at, state, whole, Stands, View, config, calling, IsOrdered, IsFineCall, EachBegins}
use Rattle.laws_reduction.specs.Calls.{HasEntered}
use Rattle.laws_reduction.specs.Plain.{onto}
use Rattle.laws_reduction.specs.Context.{values_onto}
use Rattle.laws_reduction.specs.Charging.{mk, local, local_trap, fine_at, length-onto, height-le, Stands_at, above, onto_top}
use Rattle.laws_reduction.specs.Finding.{append-nil, onto_is, within}
use Rattle.laws_reduction.specs.Leaving.{whole_open}

pub slice_get-map : {A B : Type 0} (f : A → B) (xs : List A) (n : ℕ) → slice_get (map f xs) n ≡ option_map f (slice_get xs n)
slice_get-map f [] n = refl
slice_get-map f (x ∷ xs) zero = refl
slice_get-map f (x ∷ xs) (suc n) = slice_get-map f xs n

-- the function behind the imports
pub function_is : {A : Type 0} (m : Module A) (hosts : List HostCall) (f : ℕ) (o : Option (Func A)) → length hosts ≤ f → slice_get m.funcs.items (f - length hosts) ≡ o →
    function_at (record { tree = module_view m; hosts = hosts }) f ≡ option_and_then (λ g. option_map (λ t. Defined (func_type_view t) (func_view g)) (slice_get m.types.items g.type_index)) o
function_is {A} m hosts f o le e =
    ap (λ b. if b then option_map Hosted (slice_get hosts f) else option_and_then (defined (module_view m)) (slice_get (map func_view m.funcs.items) (f - length hosts))) (le-ltb f (length hosts) le)
    ∙ ap (option_and_then (defined (module_view m))) (slice_get-map func_view m.funcs.items (f - length hosts) ∙ ap (option_map func_view) e)
    ∙ of_option o
  where
    of_type : (g : Func A) (o : Option (FuncType A)) → option_map (λ t. Defined t (func_view g)) (option_map func_type_view o) ≡ option_map (λ t. Defined (func_type_view t) (func_view g)) o
    of_type g None = refl
    of_type g (Some t) = refl

    of_option : (o : Option (Func A)) → option_and_then (defined (module_view m)) (option_map func_view o)
        ≡ option_and_then (λ g. option_map (λ t. Defined (func_type_view t) (func_view g)) (slice_get m.types.items g.type_index)) o
    of_option None = refl
    of_option (Some g) = ap (option_map (λ t. Defined t (func_view g))) (slice_get-map func_type_view m.types.items g.type_index) ∙ of_type g (slice_get m.types.items g.type_index)

-- what a call finds where it is not stuck
module _ {A : Type 0} (m : Module A) (hosts : List HostCall) (number : ℕ) (version : Version) (v : View) (f : ℕ) (fine : IsFineCall (record { number = number; deployed = record { tree = module_view m; hosts = hosts }; version = version }) v f) (le : length hosts ≤ f) where
  abbrev c : Contract
  c = record { number = number; deployed = record { tree = module_view m; hosts = hosts }; version = version }

  inside : reduce c (frames v.entries 0) (at v.base v.locals) (onto (drop (height v.entries) v.stack) []) (Invoke f (listed v.code End)) ≡ Stuck → ⊥
  inside = fine_at c v.base v.entries v.stack v.locals (Invoke f (listed v.code End)) fine.not_stuck

  abbrev going : Function → Next
  going g = with_values (length (function_type g).params) (onto (drop (height v.entries) v.stack) []) (λ top below. invoke c (frames v.entries 0) (at v.base v.locals) f g (reverse top) below (listed v.code End))

  -- the reduction of the call, by the function that it finds
  reduce_call : (o : Option Function) → function_at c.deployed f ≡ o → reduce c (frames v.entries 0) (at v.base v.locals) (onto (drop (height v.entries) v.stack) []) (Invoke f (listed v.code End)) ≡ found o going
  unfolding reduce
  reduce_call o e = ap (λ o. found o going) e

  pub call_found : f - length hosts < length m.funcs.items
  call_found = within m.funcs.items _ (λ e. inside (reduce_call None (function_is m hosts f None le e)))

  pub type_found : (g : Func A) → slice_get m.funcs.items (f - length hosts) ≡ Some g → g.type_index < length m.types.items
  type_found g e = within m.types.items _ (λ h. inside (reduce_call None (function_is m hosts f (Some g) le e ∙ ap (option_map (λ t. Defined (func_type_view t) (func_view g))) h)))

  pub call_is : (g : Func A) (t : FuncType A) → slice_get m.funcs.items (f - length hosts) ≡ Some g → slice_get m.types.items g.type_index ≡ Some t → function_at c.deployed f ≡ Some (Defined (func_type_view t) (func_view g))
  call_is g t e h = function_is m hosts f (Some g) le e ∙ ap (option_map (λ t. Defined (func_type_view t) (func_view g))) h

  pub args_found : (g : Func A) (t : FuncType A) → IsOrdered v → slice_get m.funcs.items (f - length hosts) ≡ Some g → slice_get m.types.items g.type_index ≡ Some t → height v.entries + length t.params.items ≤ length v.stack
  args_found g t o e h = by_test (nat_le (length t.params.items) (length (onto (drop (height v.entries) v.stack) []))) refl
    where
      by_test : (b : Bool) → nat_le (length t.params.items) (length (onto (drop (height v.entries) v.stack) [])) ≡ b → height v.entries + length t.params.items ≤ length v.stack
      by_test true b = above v.entries v.stack (length t.params.items) o.stands (leb-true _ _ b)
      by_test false b = absurd (inside (reduce_call _ (call_is g t e h) ∙ ap (λ x. if x then invoke c (frames v.entries 0) (at v.base v.locals) f (Defined (func_type_view t) (func_view g)) (reverse (take (length t.params.items) (onto (drop (height v.entries) v.stack) []))) (drop (length t.params.items) (onto (drop (height v.entries) v.stack) [])) (listed v.code End) else Stuck) b))

pub with_values_is : (n : ℕ) (xs ys : List Value) (go : List Value → List Value → Next) → length xs ≡ n → with_values n (xs ++ ys) go ≡ go xs ys
with_values_is n xs ys go e =
    subst (λ n. with_values n (xs ++ ys) go ≡ go xs ys) e
    (ap (λ b. if b then go (take (length xs) (xs ++ ys)) (drop (length xs) (xs ++ ys)) else Stuck) (le-leb (length xs) (length (xs ++ ys)) (omega (arith, length-append xs ys)))
    ∙ ap (λ zs. go zs (drop (length xs) (xs ++ ys))) (take-append_seam xs ys) ∙ ap (go xs) (drop-append_seam xs ys))

pub reverse_onto : (xs acc : List Value) → reverse (onto xs acc) ≡ reverse acc ++ xs
reverse_onto [] acc = sym (append-nil (reverse acc))
reverse_onto (x ∷ xs) acc = reverse_onto xs (x ∷ acc) ∙ ap (λ ys. ys ++ xs) (reverse-append (x ∷ []) acc) ∙ append_assoc (reverse acc) (x ∷ []) xs

-- a numbered body is what the code is listed from
pub code_is : (n : ℕ) (is : syntax.Instrs) (rest : Seq) → code n is rest ≡ listed (numbered n is) rest
code_is n syntax.nothing rest = refl
code_is n (syntax.seq i is) rest = ap (cfg.Code n i) (code_is (n + cfg.instr_size i) is rest)

-- the call, where its arguments stand on top
module _ (c : Contract) (b : State) (es : List Open) (kept args locals : List Value) (is : List Item) (f : ℕ) (t : syntax.FuncType) (g : syntax.Func) (stands : Stands es (length kept)) (found_is : function_at c.deployed f ≡ Some (Defined t g)) (fit : length args ≡ length t.params) where
  abbrev made : Seq
  made = cfg.Frame f (length t.results) (args ++ map zero_of g.locals) (Label (length t.results) 0 syntax.nothing (code 0 g.body End) End) (listed is End)

  call_local : reduce c (frames es 0) (at b locals) (onto (drop (height es) (kept ++ args)) []) (Invoke f (listed is End)) ≡ invoke c (frames es 0) (at b locals) f (Defined t g) args (onto (drop (height es) kept) []) (listed is End)
  unfolding reduce
  call_local =
      ap (λ o. found o (λ g. with_values (length (function_type g).params) (onto (drop (height es) (kept ++ args)) []) (λ top below. invoke c (frames es 0) (at b locals) f g (reverse top) below (listed is End)))) found_is
      ∙ ap (λ vs. with_values (length t.params) vs (λ top below. invoke c (frames es 0) (at b locals) f (Defined t g) (reverse top) below (listed is End)))
      (onto_top es kept args stands ∙ onto_is args (onto (drop (height es) kept) []))
      ∙ with_values_is (length t.params) (onto args []) (onto (drop (height es) kept) []) (λ top below. invoke c (frames es 0) (at b locals) f (Defined t g) (reverse top) below (listed is End)) (length-onto args [] ∙ (omega (arith, fit)))
      ∙ ap (λ vs. invoke c (frames es 0) (at b locals) f (Defined t g) vs (onto (drop (height es) kept) []) (listed is End)) (reverse_onto args [])

  pub too_deep : 256 ≤ frames es 0 → Reduces c (calling (mk b es (kept ++ args) locals is) f) 0 (Trap (at b (outermost es locals)) CallDepth)
  too_deep deep = local_trap c b es (kept ++ args) locals 0 (Invoke f (listed is End)) CallDepth
      (call_local ∙ ap (λ x. if x then Goes 0 (at b locals) (values (onto (drop (height es) kept) []) made) else Traps 0 CallDepth) (le-ltb (frames es 0) 256 deep))

  pub started : (e : Open) (body : List Item) (locals' : List Value) → frames es 0 < 256 → e.scope ≡ Frame f locals → e.arity ≡ length t.results → e.height ≡ length kept → e.from ≡ is →
      body ≡ numbered 0 g.body → locals' ≡ args ++ map zero_of g.locals → EachBegins es → HasEntered c (mk b es (kept ++ args) locals is) f (mk b (e ∷ es) kept locals' body)
  started e body locals' shallow ek ea eh ef eb el each = record {
    reduces = subst (λ (x : Config). Reduces c (calling (mk b es (kept ++ args) locals is) f) 0 x) (sym same)
        (local c b b es (kept ++ args) kept locals locals 0 _ _ (sym (take-append-le (height es) kept args (height-le es _ stands)))
        (call_local ∙ ap (λ x. if x then Goes 0 (at b locals) (values (onto (drop (height es) kept) []) made) else Traps 0 CallDepth) (lt-ltb (frames es 0) 256 shallow)
        ∙ ap (Goes 0 (at b locals)) (values_onto (drop (height es) kept) [] made)));
    ordered = record { stands = (omega arith, subst (λ n. Stands es n) (sym eh) stands); each = (subst (λ (k : Scope). Begins k e.ordinal e.from) (sym ek) tt, each) };
  }
    where
      same_outer : outer e.scope locals' ≡ locals
      same_outer = ap (λ k. outer k locals') ek

      same_item : item e.scope e.ordinal e.arity e.from locals' (listed body End) ≡ made
      same_item =
          ap (λ k. item k e.ordinal e.arity e.from locals' (listed body End)) ek
          ∙ ap (λ a. item (Frame f locals) e.ordinal a e.from locals' (listed body End)) ea
          ∙ ap (λ js. item (Frame f locals) e.ordinal (length t.results) js locals' (listed body End)) ef
          ∙ ap (λ ls. item (Frame f locals) e.ordinal (length t.results) is ls (listed body End)) el
          ∙ ap (λ x. item (Frame f locals) e.ordinal (length t.results) is (args ++ map zero_of g.locals) x) (ap (λ x. listed x End) eb ∙ sym (code_is 0 g.body End))

      same : config (mk b (e ∷ es) kept locals' body) ≡ Running (at b (outermost es locals)) (whole es kept locals made)
      same =
          ap (Running (at b (outermost es (outer e.scope locals')))) (whole_open es e kept locals' (listed body End) eh)
          ∙ ap (λ x. Running (at b (outermost es (outer e.scope locals'))) (whole es kept (outer e.scope locals') x)) same_item
          ∙ ap (λ ls. Running (at b (outermost es ls)) (whole es kept ls made)) same_outer

-- The call, where the arguments are cut off at a height.
module _ {A : Type 0} (m : Module A) (hosts : List HostCall) (number : ℕ) (version : Version) (v : View) (f : ℕ) (g : Func A) (t : FuncType A) (fine : IsFineCall (record { number = number; deployed = record { tree = module_view m; hosts = hosts }; version = version }) v f) (le : length hosts ≤ f) (o : IsOrdered v)
    (eg : slice_get m.funcs.items (f - length hosts) ≡ Some g) (et : slice_get m.types.items g.type_index ≡ Some t) (cut : ℕ) (ec : cut + length t.params.items ≡ length v.stack) where
  abbrev d : Contract
  d = record { number = number; deployed = record { tree = module_view m; hosts = hosts }; version = version }

  fits : height v.entries + length t.params.items ≤ length v.stack
  fits = args_found m hosts number version v f fine le g t o eg et

  stands_cut : Stands v.entries (length (take cut v.stack))
  stands_cut = Stands_at v.entries (length v.stack) _ (omega (arith, length-take cut v.stack, fits)) o.stands

  args_fit : length (drop cut v.stack) ≡ length t.params.items
  args_fit = omega (arith, length-drop cut v.stack)

  whole_stack : mk v.base v.entries (take cut v.stack ++ drop cut v.stack) v.locals v.code ≡ v
  whole_stack = ap (λ vs. mk v.base v.entries vs v.locals v.code) (take-append-drop cut v.stack)

  pub too_deep_view : 256 ≤ frames v.entries 0 → Reduces d (calling v f) 0 (Trap (state v) CallDepth)
  too_deep_view deep = subst (λ (u : View). Reduces d (calling u f) 0 (Trap (state u) CallDepth)) whole_stack
      (too_deep d v.base v.entries (take cut v.stack) (drop cut v.stack) v.locals v.code f (func_type_view t) (func_view g) stands_cut (call_is m hosts number version v f fine le g t eg et) args_fit deep)

  pub started_view : (w : View) (e : Open) → frames v.entries 0 < 256 → w.base ≡ v.base → w.entries ≡ e ∷ v.entries → w.stack ≡ take cut v.stack → w.code ≡ numbered 0 (func_view g).body →
      w.locals ≡ drop cut v.stack ++ map zero_of g.locals.items → e.scope ≡ Frame f v.locals → e.arity ≡ length t.results.items → e.height ≡ cut → e.from ≡ v.code → HasEntered d v f w
  started_view w e shallow ebase ee es ej el ek ea eh ef =
      subst (λ (u : View). HasEntered d u f w) whole_stack
      (subst (λ (x : State). HasEntered d u0 f (record w { base = x })) (sym ebase)
      (subst (λ (x : List Open). HasEntered d u0 f (mk v.base x w.stack w.locals w.code)) (sym ee)
      (subst (λ (x : List Value). HasEntered d u0 f (mk v.base (e ∷ v.entries) x w.locals w.code)) (sym es)
      (started d v.base v.entries (take cut v.stack) (drop cut v.stack) v.locals v.code f (func_type_view t) (func_view g) stands_cut (call_is m hosts number version v f fine le g t eg et) args_fit
      e w.code w.locals shallow ek ea (eh ∙ (omega (arith, length-take cut v.stack))) ef ej el o.each))))
    where
      u0 : View
      u0 = mk v.base v.entries (take cut v.stack ++ drop cut v.stack) v.locals v.code

-- the values from a height on, and the zeros
pub locals_made : {T : Type 0} (zeroed : T → Value) (n : ℕ) (xs ys : List Value) (ts us : List T) → ys ≡ xs → us ≡ ts → take (length ys - n) (drop n ys) ++ map zeroed us ≡ drop n xs ++ map zeroed ts
locals_made zeroed n xs ys ts us e f =
    ap (λ zs. take (length zs - n) (drop n zs) ++ map zeroed us) e ∙ ap (λ vs. take (length xs - n) (drop n xs) ++ map zeroed vs) f
    ∙ ap (λ m. take m (drop n xs) ++ map zeroed ts) (sym (length-drop n xs)) ∙ ap (λ zs. zs ++ map zeroed ts) (take-length (drop n xs))
