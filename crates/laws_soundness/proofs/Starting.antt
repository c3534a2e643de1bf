-- The first configuration of a call is typed.
use Rattle.std.proofs.Common.{◌≡◌, ℕ, ◌+◌, ◌<◌, Bool, true, false, cond, ◌==◌, List, [], ◌∷◌, ◌++◌, length, map, reverse, take, refl, sym, ap, ap₂, ◌∙◌, subst, arith, Option, Some, None, slice_get, append_assoc, append-nil, All}
use Rattle.std.specs.Prelude.{option_map, IfSome}
use Rattle.std.proofs.lemmas.Bool.Decides.{nat_tests}
use Rattle.std.proofs.lemmas.List.{reverse-append}
use Rattle.std.proofs.lemmas.List.Elements.{All-head, All-tail, All-append, All-take, All-drop, All-replicate, All-cons, All-nil}
use Rattle.wtypes.specs.declared.ValType.{ValType}
use Rattle.wtypes.specs.declared.Value.{Value}
use Rattle.wtypes.specs.declared.PlainInstr.TheVariants.{Const, GlobalGet}
use Rattle.spec_ledger.specs.declared.Version.{Version}
use Rattle.spec_modules.specs.Syntax.{Plain, Instrs, nothing, seq, FuncType, Func, Global, GlobalType, Element, ExportDesc, ExportFunc, ExportTable, ExportMemory, ExportGlobal}
use Rattle.spec_modules.specs.Operators.{type_of, same_type}
use Rattle.spec_typing.specs.Modules.{IsConstant, GlobalTyped, imported_globals, globals, func_type_indices}
use Rattle.spec_typing.specs.Modules as modules
use Rattle.spec_typing.specs.Linking.{IsLinked}
use Rattle.spec_modules.specs.Memory.{written}
use Rattle.spec_execution.specs.Configuration.{Deployed, Contract, Function, Hosted, Defined, function_at, Seq, End, Invoke, arguments, constant, size_of, with_elements, fresh}
use Rattle.spec_execution.specs.Run.{ContractCall, Refused, Opens, exported, wrong_argument, by_wrong, by_function, by_export, by_contract, after_start}
use Rattle.laws_soundness.specs.ConfigurationTyping.{types, outermost, ElementTyped, StateTyped, SeqTyped}
use Rattle.laws_soundness.proofs.Executing.{from_is, same_is}
use Rattle.laws_soundness.proofs.Functions.{no_globals, in_range, starts}

-- ---- a fresh instance

constant_typed : (imported : List GlobalType) (init : Instrs) (t : ValType) → imported ≡ [] → IsConstant imported init t → type_of (constant init) ≡ t
constant_typed imported (seq (Plain (Const v)) nothing) t none h = h
constant_typed imported (seq (Plain (GlobalGet x)) nothing) t none h = absurd (let e : None ≡ Some (record { type = t; is_mutable = false }) = sym (ap (λ (gs : List GlobalType). slice_get gs x) none) ∙ h in cc)
constant_typed imported _ t none h = absurd h

inits_typed : (imported : List GlobalType) (gs : List Global) → imported ≡ [] → All (λ g. IsConstant imported g.init g.type.type) gs → types (map (λ g. constant g.init) gs) ≡ map (λ g. g.type) (map (λ g. g.type) gs)
inits_typed imported [] none h = refl
inits_typed imported (g ∷ gs) none h = ap₂ (λ t ts. t ∷ ts) (constant_typed imported g.init g.type.type none (All-head (λ g. IsConstant imported g.init g.type.type) g gs h)) (inits_typed imported gs none (All-tail (λ g. IsConstant imported g.init g.type.type) g gs h))

placed : {X : Type 0} (P : X → Type 0) (at : ℕ) (items xs : List X) → All P items → All P xs → All P (written at items xs)
placed P at items xs h g = All-append P (take at xs) _ (All-take P at xs g) (All-append P items _ h (All-drop P (at + length items) xs g))

-- what a call that opens has found
pub record IsOpen (d : Deployed) (args : List Value) (f : ℕ) : Type 0 where
  pub type : FuncType
  pub func : Func
  pub there : function_at d f ≡ Some (Defined type func)
  pub fit : types args ≡ type.params

module _ (d : Deployed) (linked : IsLinked d.tree d.hosts) where
  numbered : (fs : List ℕ) → All (λ f. f < length (func_type_indices d.tree)) fs → All (ElementTyped d) (map Some fs)
  numbered [] h = All-nil (ElementTyped d)
  numbered (f ∷ fs) h =
      All-cons (ElementTyped d) (Some f) (map Some fs) (in_range d linked f (All-head (λ f. f < length (func_type_indices d.tree)) f fs h)) (numbered fs (All-tail (λ f. f < length (func_type_indices d.tree)) f fs h))

  elements_typed : (es : List Element) (table : List (Option ℕ)) → All (modules.ElementTyped d.tree) es → All (ElementTyped d) table → All (ElementTyped d) (with_elements es table)
  elements_typed [] table h g = g
  elements_typed (e ∷ es) table h g = elements_typed es _ (All-tail (modules.ElementTyped d.tree) e es h) (placed (ElementTyped d) _ (map Some e.funcs) table (numbered e.funcs (All-head (modules.ElementTyped d.tree) e es h).2) g)

  pub fresh_typed : StateTyped d [] (fresh d.tree)
  fresh_typed = record {
    locals_are = refl;
    globals_are = inits_typed (imported_globals d.tree) d.tree.globals none linked.typed.global_inits ∙ ap (λ (gs : List GlobalType). map (λ g. g.type) (gs ++ map (λ g. g.type) d.tree.globals)) (sym none);
    elements = elements_typed d.tree.elements _ linked.typed.element_segments (All-replicate (ElementTyped d) (size_of d.tree.tables) None tt);
  }
    where
      none : imported_globals d.tree ≡ []
      none = no_globals d.tree.types d.tree.imports d.hosts linked.imports

  -- ---- the first sequence

  arguments_typed : (args : List Value) (rest : Seq) (from to : List ValType) → SeqTyped d outermost rest (reverse (types args) ++ from) to → SeqTyped d outermost (arguments args rest) from to
  arguments_typed [] rest from to h = h
  arguments_typed (v ∷ vs) rest from to h = arguments_typed vs rest (type_of v ∷ from) to (subst (λ ts. SeqTyped d outermost rest ts to) (ap (λ ts. ts ++ from) (reverse-append (type_of v ∷ []) (types vs)) ∙ append_assoc (reverse (types vs)) (type_of v ∷ []) from) h)

  started : (start : Option ℕ) (rest : Seq) (to : List ValType) → IfSome start (modules.StartTyped d.tree) → SeqTyped d outermost rest [] to → SeqTyped d outermost (after_start start rest) [] to
  started None rest to h g = g
  started (Some f) rest to (index, at, type) g = let (fn, there, is) = starts d linked f index _ at type in
      (fn, [], there, ap (λ (t : FuncType). reverse t.params ++ []) (sym is), from_is d outermost rest _ [] to (ap (λ (t : FuncType). reverse t.results ++ []) is) g)

  pub first_typed : (args : List Value) (f : ℕ) (o : IsOpen d args f) → SeqTyped d outermost (after_start d.tree.start (arguments args (Invoke f End))) [] (reverse o.type.results)
  first_typed args f o =
      started d.tree.start _ _ linked.typed.start_func (arguments_typed args (Invoke f End) [] _
      (Defined o.type o.func, [], o.there, ap (λ ts. reverse ts ++ []) o.fit, append-nil (reverse o.type.results)))

-- ---- what opens

counted : (o : Option ℕ) → option_map (λ n. n + 1) o ≡ None → o ≡ None
counted None e = refl
counted (Some n) e = absurd (cc)

fits : (ts : List ValType) (vs : List Value) → length vs ≡ length ts → wrong_argument ts vs ≡ None → types vs ≡ ts
fits [] [] l e = refl
fits [] (v ∷ vs) l e = absurd (omega (arith, l))
fits (t ∷ ts) [] l e = absurd (omega (arith, l))
fits (t ∷ ts) (v ∷ vs) l e = by_test (same_type t (type_of v)) refl e (λ e. fits ts vs (omega (arith, l)) e)
  where
    by_test : (b : Bool) → same_type t (type_of v) ≡ b → cond b (option_map (λ n. n + 1) (wrong_argument ts vs)) (Some 0) ≡ None → (wrong_argument ts vs ≡ None → types vs ≡ ts) → type_of v ∷ types vs ≡ t ∷ ts
    by_test true s e again = ap₂ (λ t ts. t ∷ ts) (sym (same_is t (type_of v) s)) (again (counted (wrong_argument ts vs) e))
    by_test false s e again = absurd (cc)

by_result : (c : Contract) (f : ℕ) (o : Option ℕ) (c' : Contract) (f' : ℕ) → by_wrong c f o ≡ Opens c' f' → (o ≡ None) × (c ≡ c') × (f ≡ f')
by_result c f None c' f' e = let contract : c ≡ c' = cc in let func : f ≡ f' = cc in (refl, contract, func)
by_result c f (Some n) c' f' e = absurd (cc)

module _ (args : List Value) (c' : Contract) (f' : ℕ) where
  by_count : (c : Contract) (f : ℕ) (t : FuncType) (g : Func) (b : Bool) → function_at c.deployed f ≡ Some (Defined t g) → (length args == length t.params) ≡ b →
      cond b (by_wrong c f (wrong_argument t.params args)) (Refused 3) ≡ Opens c' f' → IsOpen c'.deployed args f'
  by_count c f t g true here l e = let (right, contract, func) = by_result c f (wrong_argument t.params args) c' f' e in
      let same : length args ≡ length t.params = grind (arith, nat_tests) in
      subst (λ (k : Contract). IsOpen k.deployed args f') contract (subst (λ (n : ℕ). IsOpen c.deployed args n) func (record { type = t; func = g; there = here; fit = fits t.params args same right }))
  by_count c f t g false here l e = absurd (cc)

  by_kind : (c : Contract) (f : ℕ) (o : Option Function) → function_at c.deployed f ≡ o → by_function c f args o ≡ Opens c' f' → IsOpen c'.deployed args f'
  by_kind c f None here e = absurd (cc)
  by_kind c f (Some (Hosted h)) here e = absurd (cc)
  by_kind c f (Some (Defined t g)) here e = by_count c f t g (length args == length t.params) here refl e

  by_name : (c : Contract) (o : Option ExportDesc) → by_export c args o ≡ Opens c' f' → IsOpen c'.deployed args f'
  by_name c None e = absurd (cc)
  by_name c (Some (ExportFunc f)) e = by_kind c f (function_at c.deployed f) refl e
  by_name c (Some (ExportTable n)) e = absurd (cc)
  by_name c (Some (ExportMemory n)) e = absurd (cc)
  by_name c (Some (ExportGlobal n)) e = absurd (cc)

pub opened : (version : Version) (call : ContractCall) (o : Option Deployed) (c : Contract) (f : ℕ) → by_contract version call o ≡ Opens c f → IsOpen c.deployed call.args f
opened version call None c f e = absurd (cc)
opened version call (Some d) c f e = by_name call.args c f (record { number = call.contract; deployed = d; version = version }) (exported call.entry d.tree.exports) e
