-- What a typed instruction does next is typed.
use Rattle.std.proofs.Common.{◌≡◌, ℕ, zero, suc, ◌+◌, Bool, true, false, ◌&&◌, cond, ◌==◌, nat_le, List, [], ◌∷◌, ◌++◌, map, reverse, refl, sym, ap, ap₂, ◌∙◌, subst, Option, Some, None, slice_get, append_assoc, append-nil, All}
use Rattle.std.proofs.lemmas.List.Elements.{All-head, All-tail}
use Rattle.std.specs.Prelude.{Result, Ok, Err, slice_set, unwrap_or}
use Rattle.wtypes.specs.declared.ValType.{ValType}
use Rattle.wtypes.specs.declared.ValType.TheVariants.{I32, I64}
use Rattle.wtypes.specs.declared.Value.{Value}
use Rattle.wtypes.specs.declared.TrapCode.{TrapCode}
use Rattle.wtypes.specs.declared.TrapCode.TheVariants as trap
use Rattle.wtypes.specs.declared.PlainInstr.{PlainInstr}
use Rattle.wtypes.specs.declared.PlainInstr.TheVariants.{Unreachable, Nop, Br, BrIf, Return, Call, CallIndirect, Drop, Select, LocalGet, LocalSet, LocalTee, GlobalGet, GlobalSet, Load, Store, MemorySize, MemoryGrow, Const, Unary, Binary, Test, Compare, Convert}
use Rattle.spec_modules.specs.Syntax.{Instr, Plain, BrTable, Block, Loop, If, Instrs, nothing, seq, FuncType, GlobalType}
use Rattle.spec_modules.specs.Shape.{size}
use Rattle.spec_modules.specs.Operators.{same_type, type_of, bits_of, value_of, truth, unary_type, binary_type, test_type, compare_type, convert_from, convert_to}
use Rattle.spec_modules.specs.Storage.{load_type, load_width, extended, store_type, store_width}
use Rattle.spec_modules.specs.Memory.{load, store}
use Rattle.spec_typing.specs.Typing.{PlainTyped, InstrTyped, Typed, of}
use Rattle.spec_typing.specs.Modules.{type_at, func_type_indices, globals}
use Rattle.spec_execution.specs.Configuration.{Deployed, Contract, Function, function_at, function_type, Seq, End, Val, Free, Label, Invoke, code, values, State, instr_size}
use Rattle.spec_execution.specs.Reduction.{Next, Goes, Traps, Stuck, with_number, with_value, found, answered, arity, pages, most_pages, with_memory, loaded, stored, grown, same_types, same_function_type, indirect, execute_plain, execute}
use Rattle.laws_soundness.specs.ConfigurationTyping.{types, Scope, inside_label, context_in, ElementTyped, StateTyped, SeqTyped, NextTyped}

-- ---- types

pub same_self : (t : ValType) → same_type t t ≡ true
same_self I32 = refl
same_self I64 = refl

pub same_is : (t u : ValType) → same_type t u ≡ true → t ≡ u
same_is I32 I32 e = refl
same_is I32 I64 e = absurd (cc)
same_is I64 I32 e = absurd (cc)
same_is I64 I64 e = refl

both_true : (a b : Bool) → (a && b) ≡ true → (a ≡ true) × (b ≡ true)
both_true true true e = (refl, refl)
both_true true false e = absurd (cc)
both_true false b e = absurd (cc)

same_lists : (ts us : List ValType) → same_types ts us ≡ true → ts ≡ us
same_lists [] [] e = refl
same_lists [] (u ∷ us) e = absurd (cc)
same_lists (t ∷ ts) [] e = absurd (cc)
same_lists (t ∷ ts) (u ∷ us) e = let (p, q) = both_true _ _ e in ap₂ (λ x xs. x ∷ xs) (same_is t u p) (same_lists ts us q)

same_functions : (t u : FuncType) → same_function_type t u ≡ true → (t.params ≡ u.params) × (t.results ≡ u.results)
same_functions t u e = let (p, r) = both_true (same_types t.params u.params) (same_types t.results u.results) e in (same_lists t.params u.params p, same_lists t.results u.results r)

of_value : (t : ValType) (x : ℕ) → type_of (value_of t x) ≡ t
of_value I32 x = refl
of_value I64 x = refl

of_truth : (b : Bool) → type_of (truth b) ≡ I32
of_truth true = refl
of_truth false = refl

get_map : {X Y : Type 0} (f : X → Y) (xs : List X) (n : ℕ) (x : X) → slice_get xs n ≡ Some x → slice_get (map f xs) n ≡ Some (f x)
get_map f [] n x e = absurd (cc)
get_map f (y ∷ xs) zero x e = cc
get_map f (y ∷ xs) (suc n) x e = get_map f xs n x e

set_types : (vs : List Value) (n : ℕ) (t : ValType) (v : Value) → slice_get (types vs) n ≡ Some t → type_of v ≡ t → types (slice_set vs n v) ≡ types vs
set_types [] n t v e h = refl
set_types (u ∷ vs) zero t v e h = cc
set_types (u ∷ vs) (suc n) t v e h = ap (λ ts. type_of u ∷ ts) (set_types vs n t v e h)

pub all_at : {X : Type 0} (P : X → Type 0) (xs : List X) (n : ℕ) (x : X) → All P xs → slice_get xs n ≡ Some x → P x
all_at P [] n x h e = absurd (cc)
all_at P (y ∷ xs) zero x h e = let same : y ≡ x = cc in subst P same (All-head P y xs h)
all_at P (y ∷ xs) (suc n) x h e = all_at P xs n x (All-tail P y xs h) e

label_of : (P : ℕ → Type 0) (ls : List ℕ) (fallback n : ℕ) → All P ls → P fallback → P (unwrap_or (slice_get ls n) fallback)
label_of P [] fallback n h p = p
label_of P (l ∷ ls) fallback zero h p = All-head P l ls h
label_of P (l ∷ ls) fallback (suc n) h p = label_of P ls fallback n (All-tail P l ls h) p

-- ---- sequences

module _ (d : Deployed) (s : Scope) where
  pub under : (vs : List Value) (rest : Seq) (from to : List ValType) → SeqTyped d s rest (types vs ++ from) to → SeqTyped d s (values vs rest) from to
  under [] rest from to h = h
  under (v ∷ vs) rest from to h = under vs (Val v rest) from to h

  pub from_is : (rest : Seq) (from from' to : List ValType) → from ≡ from' → SeqTyped d s rest from' to → SeqTyped d s rest from to
  from_is rest from from' to e h = subst (λ ts. SeqTyped d s rest ts to) (sym e) h

  pub code_typed : (is : Instrs) (n : ℕ) (rest : Seq) (from mid to : List ValType) → s.in_function ≡ true → Typed (context_in d.tree s) is from mid → SeqTyped d s rest mid to → SeqTyped d s (code n is rest) from to
  code_typed nothing n rest from mid to f h g = from_is rest from mid to h g
  code_typed (seq i is) n rest from mid to f (us, rs, below, t, e, h) g = (us, rs, below, f, t, e, code_typed is (n + instr_size i) rest (rs ++ below) mid to f h g)

module _ (c : Contract) (s : Scope) (to : List ValType) where
  pub record Kept (x : Next) : Type 0 where
    pub is : NextTyped c.deployed s to x

  pub kept : {x : Next} → NextTyped c.deployed s to x → Kept x
  kept p = record { is = p }

  pub goes : (n : ℕ) (state : State) (vs : List Value) (rest : Seq) (ts : List ValType) → StateTyped c.deployed s.locals state → types vs ≡ ts → SeqTyped c.deployed s rest ts to → Kept (Goes n state (values vs rest))
  goes n state vs rest ts st e h = record { is = (st, under c.deployed s vs rest [] to (from_is c.deployed s rest (types vs ++ []) ts to (append-nil (types vs) ∙ e) h)) }

  pub either : (b : Bool) (x y : Next) → (b ≡ true → Kept x) → Kept y → Kept (cond b x y)
  either true x y p q = p refl
  either false x y p q = q

  pub by_number : (t : ValType) (vs : List Value) (ts : List ValType) (f : ℕ → List Value → Next) → types vs ≡ t ∷ ts → ((k : ℕ) (ws : List Value) → types ws ≡ ts → Kept (f k ws)) → Kept (with_number t vs f)
  by_number t [] ts f e h = absurd (cc)
  by_number t (v ∷ vs) ts f e h =
      let same : type_of v ≡ t = cc in
      let others : types vs ≡ ts = cc in
      subst (λ b. Kept (cond b (f (bits_of v) vs) Stuck)) (sym (ap (same_type t) same ∙ same_self t)) (h (bits_of v) vs others)

  pub by_value : (t : ValType) (vs : List Value) (ts : List ValType) (f : Value → List Value → Next) → types vs ≡ t ∷ ts → ((v : Value) (ws : List Value) → type_of v ≡ t → types ws ≡ ts → Kept (f v ws)) → Kept (with_value vs f)
  by_value t [] ts f e h = absurd (cc)
  by_value t (v ∷ vs) ts f e h =
      let same : type_of v ≡ t = cc in
      let others : types vs ≡ ts = cc in
      h v vs same others

  pub by_some : {X : Type 0} (o : Option X) (x : X) (f : X → Next) → o ≡ Some x → Kept (f x) → Kept (found o f)
  by_some {X} o x f e h = let P : Option X → Type 0 = λ o. Kept (found o f) in subst P (sym e) h

  by_held : (vs : List Value) (n : ℕ) (t : ValType) (f : Value → Next) → slice_get (types vs) n ≡ Some t → ((v : Value) → type_of v ≡ t → Kept (f v)) → Kept (found (slice_get vs n) f)
  by_held [] n t f e h = absurd (cc)
  by_held (v ∷ vs) zero t f e h = let same : type_of v ≡ t = cc in h v same
  by_held (v ∷ vs) (suc n) t f e h = by_held vs n t f e h

  by_answer : {X : Type 0} (n : ℕ) (r : Result X TrapCode) (f : X → Next) → ((x : X) → Kept (f x)) → Kept (answered n r f)
  by_answer n (Ok x) f h = h x
  by_answer n (Err code) f h = kept tt

  with_value_on : (v : Value) (t : ValType) (vs : List Value) (ts : List ValType) → type_of v ≡ t → types vs ≡ ts → type_of v ∷ types vs ≡ t ∷ ts
  with_value_on v t vs ts e e' = ap₂ (λ x xs. x ∷ xs) e e'

  -- a value comes on top
  gives : (n : ℕ) (state : State) (vs : List Value) (v : Value) (rest : Seq) (t : ValType) (ts : List ValType) → StateTyped c.deployed s.locals state → type_of v ≡ t → types vs ≡ ts → SeqTyped c.deployed s rest (t ∷ ts) to → Kept (Goes n state (values vs (Val v rest)))
  gives n state vs v rest t ts st e e' h = goes n state vs (Val v rest) ts st e' (from_is c.deployed s rest (type_of v ∷ ts) (t ∷ ts) to (ap (λ x. x ∷ ts) e) h)

  in_new_memory : (state : State) (memory : List ℕ) → StateTyped c.deployed s.locals state → StateTyped c.deployed s.locals (with_memory state memory)
  in_new_memory state memory st = record { locals_are = st.locals_are; globals_are = st.globals_are; elements = st.elements }

  by_load : (n : ℕ) (state : State) (t : ValType) (bytes : ℕ) (extend : ℕ → ℕ) (at : ℕ) (vs : List Value) (rest : Seq) (ts : List ValType) → StateTyped c.deployed s.locals state → types vs ≡ ts → SeqTyped c.deployed s rest (t ∷ ts) to → Kept (loaded n state t bytes extend at vs rest)
  unfolding loaded
  by_load n state t bytes extend at vs rest ts st e h = by_answer n (load state.memory at bytes) _ (λ x. gives n state vs _ rest t ts st (of_value t _) e h)

  by_store : (n : ℕ) (state : State) (bytes at x : ℕ) (vs : List Value) (rest : Seq) (ts : List ValType) → StateTyped c.deployed s.locals state → types vs ≡ ts → SeqTyped c.deployed s rest ts to → Kept (stored n state bytes at x vs rest)
  unfolding stored
  by_store n state bytes at x vs rest ts st e h = by_answer n (store state.memory at bytes x) _ (λ memory. goes n _ vs rest ts (in_new_memory state _ st) e h)

  by_growth : (n : ℕ) (state : State) (delta : ℕ) (vs : List Value) (rest : Seq) (ts : List ValType) → StateTyped c.deployed s.locals state → types vs ≡ ts → SeqTyped c.deployed s rest (I32 ∷ ts) to → Kept (grown c n state delta vs rest)
  unfolding grown
  by_growth n state delta vs rest ts st e h =
      either (nat_le (pages state.memory + delta) (most_pages c.version c.deployed.tree.memories)) _ _ (λ _. gives n _ vs _ rest I32 ts (in_new_memory state _ st) refl e h) (gives n state vs _ rest I32 ts st refl e h)

  by_element : (n : ℕ) (state : State) (t : FuncType) (e : Option (Option ℕ)) (vs : List Value) (rest : Seq) (below : List ValType) → StateTyped c.deployed s.locals state →
      ((f : ℕ) → e ≡ Some (Some f) → (g : Function) × (function_at c.deployed f ≡ Some g)) → types vs ≡ reverse t.params ++ below → SeqTyped c.deployed s rest (reverse t.results ++ below) to → Kept (indirect c n state t e vs rest)
  by_element n state t None vs rest below st there e h = kept tt
  by_element n state t (Some None) vs rest below st there e h = kept tt
  by_element n state t (Some (Some f)) vs rest below st there e h = let (g, is) = there f refl in
      by_some (function_at c.deployed f) g _ is (either (same_function_type t (function_type g)) _ (Traps n trap.TypeMismatch) (λ same.
      let (p, r) = same_functions t (function_type g) same in
      goes n state vs (Invoke f rest) (reverse t.params ++ below) st e (
        g,
        below,
        is,
        ap (λ (ts : List ValType). reverse ts ++ below) p,
        from_is c.deployed s rest (reverse (function_type g).results ++ below) (reverse t.results ++ below) to (ap (λ (ts : List ValType). reverse ts ++ below) (sym r)) h,
      )) (kept tt))

-- an instruction between its operands and what comes after it, with what stands below
module _ (c : Contract) (s : Scope) (to : List ValType) (state : State) (st : StateTyped c.deployed s.locals state) (rest : Seq) (below : List ValType) where
  abbrev After : List ValType → Type 0
  After rs = SeqTyped c.deployed s rest (rs ++ below) to

  after : (rs rs' : List ValType) → rs ≡ rs' → After rs → After rs'
  after rs rs' e h = subst After e h

  before : (vs : List Value) (us os : List ValType) → us ≡ os → types vs ≡ us ++ below → types vs ≡ os ++ below
  before vs us os e h = h ∙ ap (λ ts. ts ++ below) e

  by_local : (x : ℕ) (t : ValType) (f : Value → Next) → slice_get s.locals x ≡ Some t → ((v : Value) → type_of v ≡ t → Kept c s to (f v)) → Kept c s to (found (slice_get state.locals x) f)
  by_local x t f e h = by_held c s to state.locals x t f (ap (λ ts. slice_get ts x) st.locals_are ∙ e) h

  global_is : (x : ℕ) (type : GlobalType) → slice_get (globals c.deployed.tree) x ≡ Some type → slice_get (types state.globals) x ≡ Some type.type
  global_is x type e = ap (λ ts. slice_get ts x) st.globals_are ∙ get_map (λ g. g.type) (globals c.deployed.tree) x type e

  by_global : (x : ℕ) (type : GlobalType) (f : Value → Next) → slice_get (globals c.deployed.tree) x ≡ Some type → ((v : Value) → type_of v ≡ type.type → Kept c s to (f v)) → Kept c s to (found (slice_get state.globals x) f)
  by_global x type f e h = by_held c s to state.globals x type.type f (global_is x type e) h

  set_local : (x : ℕ) (t : ValType) (v : Value) → slice_get s.locals x ≡ Some t → type_of v ≡ t → StateTyped c.deployed s.locals (record state { locals = slice_set state.locals x v })
  set_local x t v e h = record { locals_are = set_types state.locals x t v (ap (λ ts. slice_get ts x) st.locals_are ∙ e) h ∙ st.locals_are; globals_are = st.globals_are; elements = st.elements }

  set_global : (x : ℕ) (type : GlobalType) (v : Value) → slice_get (globals c.deployed.tree) x ≡ Some type → type_of v ≡ type.type → StateTyped c.deployed s.locals (record state { globals = slice_set state.globals x v })
  set_global x type v e h = record { locals_are = st.locals_are; globals_are = set_types state.globals x type.type v (global_is x type e) h ∙ st.globals_are; elements = st.elements }

  abbrev Called : Type 0
  Called = (f : ℕ) (type : FuncType) → slice_get (map (type_at c.deployed.tree.types) (func_type_indices c.deployed.tree)) f ≡ Some type → (g : Function) × (function_at c.deployed f ≡ Some g) × (function_type g ≡ type)

  chosen : (b : Bool) (x y : Value) (t : ValType) → type_of x ≡ t → type_of y ≡ t → type_of (cond b x y) ≡ t
  chosen true x y t e e' = e
  chosen false x y t e e' = e'

  one_plain : Called → s.in_function ≡ true → (n : ℕ) (i : PlainInstr) (vs : List Value) (us rs : List ValType) → PlainTyped (context_in c.deployed.tree s) i us rs → types vs ≡ us ++ below → After rs → Kept c s to (execute_plain c state n i vs rest)
  unfolding execute_plain
  one_plain k f n Unreachable vs us rs t e h = kept c s to tt
  one_plain k f n Nop vs us rs t e h = goes c s to n state vs rest below st (before vs us [] t.0 e) (after rs [] t.1 h)
  one_plain k f n (Const v) vs us rs (p, q) e h = gives c s to n state vs v rest (type_of v) below st refl (before vs us [] p e) (after rs _ q h)
  one_plain k f n Drop vs us rs (t, (p, q)) e h = by_value c s to t vs below _ (before vs us _ p e) (λ v ws e0 e1. goes c s to n state ws rest below st e1 (after rs [] q h))
  one_plain k f n Select vs us rs (t, (p, q)) e h =
      by_number c s to I32 vs (t ∷ t ∷ below) _ (before vs us _ p e) (λ x vs e0. by_value c s to t vs (t ∷ below) _ e0 (λ b vs b_is e1. by_value c s to t vs below _ e1 (λ a vs a_is e2.
      gives c s to n state vs (cond (x == 0) b a) rest t below st (chosen (x == 0) b a t b_is a_is) e2 (after rs _ q h))))
  one_plain k f n (Unary o) vs us rs (p, q) e h = by_number c s to (unary_type o) vs below _ (before vs us _ p e) (λ x ws e0. gives c s to n state ws _ rest (unary_type o) below st (of_value (unary_type o) _) e0 (after rs _ q h))
  one_plain k f n (Binary o) vs us rs (p, q) e h = by_number c s to (binary_type o) vs (binary_type o ∷ below) _ (before vs us _ p e) (λ y ws e0. by_number c s to (binary_type o) ws below _ e0 (λ x ws e1.
      by_answer c s to n _ _ (λ z. gives c s to n state ws _ rest (binary_type o) below st (of_value (binary_type o) z) e1 (after rs _ q h))))
  one_plain k f n (Test o) vs us rs (p, q) e h = by_number c s to (test_type o) vs below _ (before vs us _ p e) (λ x ws e0. gives c s to n state ws _ rest I32 below st (of_truth _) e0 (after rs _ q h))
  one_plain k f n (Compare o) vs us rs (p, q) e h = by_number c s to (compare_type o) vs (compare_type o ∷ below) _ (before vs us _ p e) (λ y ws e0. by_number c s to (compare_type o) ws below _ e0 (λ x ws e1.
      gives c s to n state ws _ rest I32 below st (of_truth _) e1 (after rs _ q h)))
  one_plain k f n (Convert o) vs us rs (p, q) e h = by_number c s to (convert_from o) vs below _ (before vs us _ p e) (λ x ws e0. gives c s to n state ws _ rest (convert_to o) below st (of_value (convert_to o) _) e0 (after rs _ q h))
  one_plain k f n (LocalGet x) vs us rs (t, g, (p, q)) e h = by_local x t _ g (λ v is. gives c s to n state vs v rest t below st is (before vs us [] p e) (after rs _ q h))
  one_plain k f n (LocalSet x) vs us rs (t, g, (p, q)) e h = by_value c s to t vs below _ (before vs us _ p e) (λ v ws is e0. by_local x t _ g (λ old _. goes c s to n _ ws rest below (set_local x t v g is) e0 (after rs [] q h)))
  one_plain k f n (LocalTee x) vs us rs (t, g, (p, q)) e h = by_value c s to t vs below _ (before vs us _ p e) (λ v ws is e0.
      gives c s to n state ws v (Val v (Free (Plain (LocalSet x)) rest)) t below st is e0
      (t ∷ [], [], t ∷ below, f, (t, g, (refl, refl)), ap (λ u. u ∷ t ∷ below) is, after rs (t ∷ []) q h))
  one_plain k f n (GlobalGet x) vs us rs (type, g, (p, q)) e h = by_global x type _ g (λ v is. gives c s to n state vs v rest type.type below st is (before vs us [] p e) (after rs _ q h))
  one_plain k f n (GlobalSet x) vs us rs (type, g, m, (p, q)) e h = by_value c s to type.type vs below _ (before vs us _ p e) (λ v ws is e0. by_global x type _ g (λ old _. goes c s to n _ ws rest below (set_global x type v g is) e0 (after rs [] q h)))
  one_plain k f n (Load o align offset) vs us rs (m, a, (p, q)) e h = by_number c s to I32 vs below _ (before vs us _ p e) (λ x ws e0. by_load c s to n state (load_type o) (load_width o) (extended o) (x + offset) ws rest below st e0 (after rs _ q h))
  one_plain k f n (Store o align offset) vs us rs (m, a, (p, q)) e h = by_number c s to (store_type o) vs (I32 ∷ below) _ (before vs us _ p e) (λ y ws e0. by_number c s to I32 ws below _ e0 (λ x ws e1.
      by_store c s to n state (store_width o) (x + offset) y ws rest below st e1 (after rs [] q h)))
  one_plain k f n MemorySize vs us rs (m, (p, q)) e h = gives c s to n state vs _ rest I32 below st refl (before vs us [] p e) (after rs _ q h)
  one_plain k f n MemoryGrow vs us rs (m, (p, q)) e h = by_number c s to I32 vs below _ (before vs us _ p e) (λ x ws e0. by_growth c s to n state x ws rest below st e0 (after rs _ q h))
  one_plain k f n (Br l) vs us rs (target, left, g, p) e h = kept c s to (target, left ++ below, g, before vs us _ p e ∙ append_assoc (of target) left below)
  one_plain k f n (BrIf l) vs us rs (target, g, (p, q)) e h = by_number c s to I32 vs (of target ++ below) _ (before vs us _ p e) (λ x ws e0.
      goes c s to n state ws _ (of target ++ below) st e0 (arms (x == 0)))
    where
      arms : (b : Bool) → SeqTyped c.deployed s (cond b rest (Free (Plain (Br l)) rest)) (of target ++ below) to
      arms true = after rs (of target) q h
      arms false = (of target, of target, below, f, (target, [], g, sym (append-nil (of target))), refl, after rs (of target) q h)
  one_plain k f n Return vs us rs (left, p) e h = kept c s to (left ++ below, f, before vs us _ p e ∙ append_assoc (of s.result) left below)
  one_plain k f n (Call x) vs us rs (type, g, (p, q)) e h = let (fn, at, is) = k x type g in
      goes c s to n state vs (Invoke x rest) (reverse type.params ++ below) st (before vs us _ p e) (
        fn,
        below,
        at,
        ap (λ (u : FuncType). reverse u.params ++ below) (sym is),
        after rs (reverse (function_type fn).results) (q ∙ ap (λ (u : FuncType). reverse u.results) (sym is)) h,
      )
  one_plain k f n (CallIndirect x) vs us rs (type, m, g, (p, q)) e h = by_number c s to I32 vs (reverse type.params ++ below) _ (before vs us _ p e) (λ i ws e0.
      by_some c s to (slice_get c.deployed.tree.types x) type _ g (by_element c s to n state type (slice_get state.table i) ws rest below st (there i) e0 (after rs (reverse type.results) q h)))
    where
      there : (i f : ℕ) → slice_get state.table i ≡ Some (Some f) → (g : Function) × (function_at c.deployed f ≡ Some g)
      there i f e = all_at (ElementTyped c.deployed) state.table i (Some f) st.elements e

  label_enters : (target result : Option ValType) (n : ℕ) (at : ℕ) (k : Instrs) (body : Instrs) (first : ℕ) → n ≡ arity target → s.in_function ≡ true → Typed (context_in c.deployed.tree s) k (of target) (of result) →
      Typed (context_in c.deployed.tree (inside_label target s)) body [] (of result) → After (of result) → SeqTyped c.deployed s (Label n at k (code first body End) rest) below to
  label_enters target result n at k body first a f t b h = (target, result, a, f, t, code_typed c.deployed (inside_label target s) body first End [] (of result) (of result) f b refl, h)

  pub one : Called → s.in_function ≡ true → (n at : ℕ) (i : Instr) (vs : List Value) (us rs : List ValType) → InstrTyped (context_in c.deployed.tree s) i us rs → types vs ≡ us ++ below → After rs → Kept c s to (execute c state n at i vs rest)
  unfolding execute
  one k f n at (Plain i) vs us rs t e h = one_plain k f n i vs us rs t e h
  one k f n at (BrTable ls l) vs us rs (target, left, g, g', p) e h = by_number c s to I32 vs (of target ++ (left ++ below)) _ (before vs us _ p e ∙ ap (λ ts. I32 ∷ ts) (append_assoc (of target) left below)) (λ x ws e0.
      goes c s to n state ws _ (of target ++ (left ++ below)) st e0
      (of target ++ left, rs, below, f, (target, left, label_of (λ l. slice_get s.labels l ≡ Some target) ls l x g g', refl), sym (append_assoc (of target) left below), h))
  one k f n at (Block r b) vs us rs ((p, q), t) e h = goes c s to n state vs _ below st (before vs us [] p e) (label_enters r r _ at nothing b (at + 1) refl f refl t (after rs (of r) q h))
  one k f n at (Loop r b) vs us rs ((p, q), t) e h = goes c s to n state vs _ below st (before vs us [] p e) (label_enters None r 0 at (seq (Loop r b) nothing) b (at + 1) refl f ([], of r, [], ((refl, refl), t), refl, append-nil (of r)) t (after rs (of r) q h))
  one k f n at (If r a b) vs us rs ((p, q), t, t') e h = by_number c s to I32 vs below _ (before vs us _ p e) (λ x ws e0. goes c s to n state ws _ below st e0 (arms (x == 0)))
    where
      arms : (x : Bool) → SeqTyped c.deployed s (Label (arity r) at nothing (cond x (code (at + 1 + size a) b End) (code (at + 1) a End)) rest) below to
      arms true = label_enters r r _ at nothing b (at + 1 + size a) refl f refl t' (after rs (of r) q h)
      arms false = label_enters r r _ at nothing a (at + 1) refl f refl t (after rs (of r) q h)
