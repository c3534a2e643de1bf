-- The entry of a call, which waits until the start function has ended.
use Rattle.std.proofs.Common.{◌≡◌, ℕ, ◌-◌, ◌<◌, ◌≤◌, List, [], ◌∷◌, ◌++◌, length, map, refl, sym, ap, ◌∙◌, subst, arith, Option, Some, None, slice_get, true, ◌==◌}
use Rattle.std.specs.Prelude.{option_map}
use Rattle.std.proofs.lemmas.Bool.{eqb-true}
use Rattle.wtypes.specs.declared.FuncType.{FuncType}
use Rattle.wtypes.specs.declared.HostCall.{HostCall}
use Rattle.wtypes.specs.declared.Value.{Value}
use Rattle.spec_ledger.specs.declared.Version.{Version}
use Rattle.spec_modules.specs.Syntax as syntax
use Rattle.module_tree.specs.declared.module.Func.{Func}
use Rattle.module_tree.specs.declared.module.Module.{Module}
use Rattle.module_tree.specs.ModuleView.{func_type_view, func_view}
use Rattle.module_tree.specs.Modules.{module_view}
use Rattle.spec_execution.specs.Configuration.{Contract, Function, Defined, function_at, Seq, End, Val, Invoke, Config, Running, State, arguments}
use Rattle.spec_execution.specs.Reduction.{zero_of}
use Rattle.spec_execution.specs.Turns.{Frees, one_more}
use Rattle.interp_state.specs.declared.parts.Parts.{Parts}
use Rattle.interp_state.specs.declared.waiting.Waiting.{Waiting}
use Rattle.laws_reduction.specs.Meaning.{Open, numbered, put, at, View, config, calling, Settles}
use Rattle.laws_reduction.specs.Tails.{joined, with_tail}
use Rattle.interp_state.specs.Views.{view, opens_of, items_of}
use Rattle.interp_state.specs.Waiting.{IsEntry, IsPrepared, HasBeenEntered, Comes, Waits, tail_of, alone, frame_of, entered}
use Rattle.laws_reduction.specs.Calling.{function_is, started}
use Rattle.laws_reduction.specs.Finding.{within}
use Rattle.laws_reduction.specs.Joining.{with_no_tail, frees_joined}
use Rattle.laws_reduction.specs.Rest.{Frees_join}

none_found : (o : Option Function) (g : Function) → o ≡ None → o ≡ Some g → ⊥
none_found None g e h = absurd (cc)
none_found (Some x) g e h = absurd (cc)

-- what is found of an entry
module _ {A : Type 0} (m : Module A) (hosts : List HostCall) (number : ℕ) (version : Version) (f : ℕ) (args : List Value) (le : length hosts ≤ f) (entry : IsEntry (record { number = number; deployed = record { tree = module_view m; hosts = hosts }; version = version }) f args) where
  abbrev c : Contract
  c = record { number = number; deployed = record { tree = module_view m; hosts = hosts }; version = version }

  pub entry_found : f - length hosts < length m.funcs.items
  entry_found = within m.funcs.items _ (λ e. none_found _ _ (function_is m hosts f None le e) entry.found)

  pub entry_type : (g : Func A) → slice_get m.funcs.items (f - length hosts) ≡ Some g → g.type_index < length m.types.items
  entry_type g e = within m.types.items _ (λ h. none_found _ _ (function_is m hosts f (Some g) le e ∙ ap (option_map (λ t. Defined (func_type_view t) (func_view g))) h) entry.found)

  params_same : (a b : Option Function) (t t' : syntax.FuncType) (g g' : syntax.Func) → a ≡ Some (Defined t g) → a ≡ Some (Defined t' g') → t ≡ t'
  params_same a b t t' g g' e h = cc

  -- its frame is the one that its call reduces to
  pub entry_prepared : (g : Func A) (t : FuncType A) → slice_get m.funcs.items (f - length hosts) ≡ Some g → slice_get m.types.items g.type_index ≡ Some t →
      (w : Waiting A) → w.func ≡ f → w.arity ≡ length t.results.items → w.locals.items ≡ args ++ map zero_of g.locals.items → items_of w.body.now ≡ numbered 0 (func_view g).body → IsPrepared c args w
  entry_prepared g t eg et w ef ea el eb = record {
    reduces = λ b stack locals.
        (started c b [] stack args locals [] w.func (func_type_view t) (func_view g) tt found fit (frame_of w stack locals) (items_of w.body.now) w.locals.items (omega arith) refl ea refl refl eb el tt).reduces;
  }
    where
      found_at : function_at c.deployed f ≡ Some (Defined (func_type_view t) (func_view g))
      found_at = function_is m hosts f (Some g) le eg ∙ ap (option_map (λ t. Defined (func_type_view t) (func_view g))) et

      found : function_at c.deployed w.func ≡ Some (Defined (func_type_view t) (func_view g))
      found = subst (λ (n : ℕ). function_at c.deployed n ≡ Some (Defined (func_type_view t) (func_view g))) (sym ef) found_at

      fit : length args ≡ length t.params.items
      fit = entry.fit ∙ ap (λ t. length t.params) (params_same _ None entry.type (func_type_view t) entry.function (func_view g) entry.found found_at)

-- values, and then others, before the rest
joined_put : (stack args : List Value) (rest : Seq) → joined (put stack End) (arguments args rest) ≡ put (stack ++ args) rest
joined_put [] args rest = all_put args
  where
    all_put : (vs : List Value) → arguments vs rest ≡ put vs rest
    all_put [] = refl
    all_put (v ∷ vs) = ap (Val v) (all_put vs)
joined_put (v ∷ stack) args rest = ap (Val v) (joined_put stack args rest)

-- nothing is open
pub alone_is : {A : Type 0} (b : State) (p : Parts A) → p.code.now ≡ [] → opens_of p.entries.items ≡ [] → view b p ≡ alone (view b p).base p.stack.items p.locals.items
alone_is b p e h =
    ap (λ (es : List Open). record { base = (view b p).base; entries = es; stack = p.stack.items; locals = p.locals.items; code = items_of p.code.now }) h
    ∙ ap (λ is. record { base = (view b p).base; entries = []; stack = p.stack.items; locals = p.locals.items; code = items_of is }) e

pub nil_of : {X : Type 0} (xs : List X) → (length xs == 0) ≡ true → xs ≡ []
nil_of [] e = refl
nil_of (x ∷ xs) e = absurd (omega (arith, eqb-true _ _ e))

-- nothing is entered
pub comes_settled : {A : Type 0} (c : Contract) (args : List Value) (b : State) (p q : Parts A) (w : Option (Waiting A)) → Settles c (view b p) (view b q) → Waits c args w → Comes c args b p w q w
comes_settled c args b p q w settled waits = record { frees = frees_joined (tail_of args w) c _ _ settled.frees; ordered = settled.ordered; waits = waits }

-- free reductions before those
pub comes_after : {A : Type 0} (c : Contract) (args : List Value) (b : State) (p p1 q : Parts A) (w x : Option (Waiting A)) → Settles c (view b p) (view b p1) → Comes c args b p1 w q x → Comes c args b p w q x
comes_after c args b p p1 q w x first then_on = record {
  frees = Frees_join c _ _ _ (frees_joined (tail_of args w) c _ _ first.frees) then_on.frees;
  ordered = then_on.ordered;
  waits = then_on.waits;
}

-- the call of the entry at the end of the start function, and free reductions behind it
pub comes_entered : {A : Type 0} (c : Contract) (args : List Value) (b : State) (p1 p2 p3 : Parts A) (w : Waiting A) → IsPrepared c args w → p1.code.now ≡ [] → opens_of p1.entries.items ≡ [] →
    HasBeenEntered p1 w p2 → Settles c (view b p2) (view b p3) → Comes c args b p1 (Some w) p3 None
comes_entered c args b p1 p2 p3 w prepared at_end none_open is second = record {
  frees =
      subst (λ (x : Config). Frees c x (with_tail End (config (view b p3)))) (sym called)
      (one_more _ _ _ (prepared.reduces (view b p1).base p1.stack.items p1.locals.items)
      (subst (λ (x : Config). Frees c (config (entered (view b p1).base w p1.stack.items p1.locals.items)) x) (sym (with_no_tail (config (view b p3))))
      (subst (λ (v : View). Frees c (config v) (config (view b p3))) (is b) second.frees)));
  ordered = second.ordered;
  waits = tt;
}
  where
    tail : Seq
    tail = arguments args (Invoke w.func End)

    called : with_tail tail (config (view b p1)) ≡ calling (alone (view b p1).base (p1.stack.items ++ args) p1.locals.items) w.func
    called = ap (λ v. with_tail tail (config v)) (alone_is b p1 at_end none_open) ∙ ap (Running (at (view b p1).base p1.locals.items)) (joined_put p1.stack.items args (Invoke w.func End))
