-- A sequence reduces in the same way with another one behind it, until it is values.
use Rattle.std.proofs.Common.{◌≡◌, ℕ, zero, suc, ◌+◌, Bool, true, false, cond, List, [], ◌∷◌, ◌++◌, refl, sym, ap, ◌∙◌, Option, Some, None, length, nat_le, nat_lt, ◌==◌, map, reverse, subst}
use Rattle.std.specs.Prelude.{Result, Ok, Err, slice_get, take, drop, unwrap_or}
use mathlib.Core.Path.{fun_ext}
use Rattle.wtypes.specs.declared.ValType.{ValType}
use Rattle.wtypes.specs.declared.ValType.TheVariants.{I32}
use Rattle.wtypes.specs.declared.Value.{Value}
use Rattle.wtypes.specs.declared.TrapCode.{TrapCode}
use Rattle.wtypes.specs.declared.TrapCode.TheVariants as trap
use Rattle.wtypes.specs.declared.PlainInstr.{PlainInstr}
use Rattle.wtypes.specs.declared.PlainInstr.TheVariants.{Unreachable, Nop, Br, BrIf, Return, Call, CallIndirect, Drop, Select, LocalGet, LocalSet, LocalTee, GlobalGet, GlobalSet, Load, Store, MemorySize, MemoryGrow, Const, Unary, Binary, Test, Compare, Convert}
use Rattle.spec_modules.specs.Syntax.{Instr, Plain, BrTable, Block, Loop, If, Instrs, nothing, seq, FuncType}
use Rattle.spec_ledger.specs.declared.Reply.{Reply}
use Rattle.spec_ledger.specs.declared.Reply.TheVariants as reply
use Rattle.spec_modules.specs.Operators.{same_type, type_of, bits_of}
use Rattle.spec_modules.specs.Storage.{load_type, load_width, extended, store_width}
use Rattle.spec_modules.specs.Memory.{load, store}
use Rattle.spec_modules.specs.Profile.{frame_limit}
use Rattle.spec_execution.specs.Configuration.{Contract, Function, Hosted, Defined, function_at, function_type, Seq, End, Val, Code, Free, Label, Frame, Invoke, code, values, instr_size, State, Config, Running, Trap}
use Rattle.spec_execution.specs.Reduction.{Next, Goes, Traps, Asks, Branches, Returns, Ended, Stuck, with_number, with_value, with_values, found, answered, loaded, stored, grown, most_pages, pages, same_function_type, effect_of, zero_of, indirect, replied, invoke, execute_plain, execute, in_label, in_frame, reduce}
use Rattle.spec_execution.specs.Run.{next, Reduces, goes, traps, IsCharged, IsStuck}
use Rattle.spec_execution.specs.Turns.{Frees, none, one_more, IsAtRest, to_come, ended}
use Rattle.laws_reduction.specs.Meaning.{Item, View, config, state, sequence, IsFine, IsReady}
use Rattle.laws_reduction.specs.Tails.{joined, with_tail, joined_next}
use Rattle.laws_reduction.specs.Rest.{is_charged, is_ended}

pub joined_end : (q : Seq) → joined q End ≡ q
joined_end End = refl
joined_end (Val v rest) = ap (Val v) (joined_end rest)
joined_end (Code n i rest) = ap (Code n i) (joined_end rest)
joined_end (Free i rest) = ap (Free i) (joined_end rest)
joined_end (Label n at k inside rest) = ap (Label n at k inside) (joined_end rest)
joined_end (Frame f n ls inside rest) = ap (Frame f n ls inside) (joined_end rest)
joined_end (Invoke f rest) = ap (Invoke f) (joined_end rest)

pub with_no_tail : (x : Config) → with_tail End x ≡ x
with_no_tail (Running s q) = ap (Running s) (joined_end q)
with_no_tail (Trap s t) = refl

module _ (t : Seq) where
  -- the other one stands behind values and code as before
  pub under : (vs : List Value) (a : Seq) → values vs (joined a t) ≡ joined (values vs a) t
  under [] a = refl
  under (v ∷ vs) a = under vs (Val v a)

  in_code : (n : ℕ) (is : Instrs) (a : Seq) → code n is (joined a t) ≡ joined (code n is a) t
  in_code n nothing a = refl
  in_code n (seq i is) a = ap (Code n i) (in_code (n + instr_size i) is a)

  module _ (go : List Value → Next) where
    record Joins (x y : Next) : Type 0 where
      is : x ≡ joined_next t go y

    to : (n : ℕ) (s : State) (vs : List Value) (a b : Seq) → a ≡ joined b t → Joins (Goes n s (values vs a)) (Goes n s (values vs b))
    to n s vs a b e = record { is = ap (λ x. Goes n s (values vs x)) e ∙ ap (Goes n s) (under vs b) }

    either : (b : Bool) (x x' y y' : Next) → Joins x x' → Joins y y' → Joins (cond b x y) (cond b x' y')
    either true x x' y y' p q = p
    either false x x' y y' p q = q

    stuck : Joins Stuck Stuck
    stuck = record { is = refl }

    falls : (n : ℕ) (c : TrapCode) → Joins (Traps n c) (Traps n c)
    falls n c = record { is = refl }

    by_number : (ty : ValType) (vs : List Value) (f g : ℕ → List Value → Next) → ((k : ℕ) (vs : List Value) → Joins (f k vs) (g k vs)) → Joins (with_number ty vs f) (with_number ty vs g)
    by_number ty [] f g h = stuck
    by_number ty (v ∷ vs) f g h = either (same_type ty (type_of v)) (f (bits_of v) vs) (g (bits_of v) vs) Stuck Stuck (h (bits_of v) vs) stuck

    by_value : (vs : List Value) (f g : Value → List Value → Next) → ((v : Value) (vs : List Value) → Joins (f v vs) (g v vs)) → Joins (with_value vs f) (with_value vs g)
    by_value [] f g h = stuck
    by_value (v ∷ vs) f g h = h v vs

    by_values : (n : ℕ) (vs : List Value) (f g : List Value → List Value → Next) → ((top below : List Value) → Joins (f top below) (g top below)) → Joins (with_values n vs f) (with_values n vs g)
    by_values n vs f g h = either (nat_le n (length vs)) (f (take n vs) (drop n vs)) (g (take n vs) (drop n vs)) Stuck Stuck (h (take n vs) (drop n vs)) stuck

    by_found : {X : Type 0} (x : Option X) (f g : X → Next) → ((x : X) → Joins (f x) (g x)) → Joins (found x f) (found x g)
    by_found None f g h = stuck
    by_found (Some x) f g h = h x

    by_answer : {X : Type 0} (n : ℕ) (r : Result X TrapCode) (f g : X → Next) → ((x : X) → Joins (f x) (g x)) → Joins (answered n r f) (answered n r g)
    by_answer n (Ok x) f g h = h x
    by_answer n (Err c) f g h = falls n c

    by_branch : (b : Bool) (l : ℕ) (a : Seq) → cond b (joined a t) (Free (Plain (Br l)) (joined a t)) ≡ joined (cond b a (Free (Plain (Br l)) a)) t
    by_branch true l a = refl
    by_branch false l a = refl

    by_element : (c : Contract) (n : ℕ) (s : State) (ty : FuncType) (e : Option (Option ℕ)) (vs : List Value) (a : Seq) → Joins (indirect c n s ty e vs (joined a t)) (indirect c n s ty e vs a)
    by_element c n s ty None vs a = falls n _
    by_element c n s ty (Some None) vs a = falls n _
    by_element c n s ty (Some (Some f)) vs a = by_found (function_at c.deployed f) _ _ (λ g. either (same_function_type ty (function_type g)) _ _ (Traps n trap.TypeMismatch) (Traps n trap.TypeMismatch) (to n s vs (Invoke f (joined a t)) (Invoke f a) refl) (falls n _))

    by_load : (n : ℕ) (s : State) (ty : ValType) (bytes : ℕ) (extend : ℕ → ℕ) (at : ℕ) (vs : List Value) (a : Seq) → Joins (loaded n s ty bytes extend at vs (joined a t)) (loaded n s ty bytes extend at vs a)
    unfolding loaded
    by_load n s ty bytes extend at vs a = by_answer n (load s.memory at bytes) _ _ (λ x. to n s vs _ (Val _ a) refl)

    by_store : (n : ℕ) (s : State) (bytes at x : ℕ) (vs : List Value) (a : Seq) → Joins (stored n s bytes at x vs (joined a t)) (stored n s bytes at x vs a)
    unfolding stored
    by_store n s bytes at x vs a = by_answer n (store s.memory at bytes x) _ _ (λ memory. to n _ vs _ a refl)

    by_growth : (c : Contract) (n : ℕ) (s : State) (delta : ℕ) (vs : List Value) (a : Seq) → Joins (grown c n s delta vs (joined a t)) (grown c n s delta vs a)
    unfolding grown
    by_growth c n s delta vs a = either (nat_le (pages s.memory + delta) (most_pages c.version c.deployed.tree.memories)) _ _ _ _ (to n _ vs _ (Val _ a) refl) (to n s vs _ (Val _ a) refl)

    one_plain : (c : Contract) (s : State) (n : ℕ) (i : PlainInstr) (vs : List Value) (a : Seq) → Joins (execute_plain c s n i vs (joined a t)) (execute_plain c s n i vs a)
    unfolding execute_plain
    one_plain c s n Unreachable vs a = falls n _
    one_plain c s n Nop vs a = to n s vs _ a refl
    one_plain c s n (Const v) vs a = to n s vs _ (Val v a) refl
    one_plain c s n Drop vs a = by_value vs _ _ (λ v vs. to n s vs _ a refl)
    one_plain c s n Select vs a = by_number I32 vs _ _ (λ k vs. by_value vs _ _ (λ b vs. by_value vs _ _ (λ x vs. to n s vs _ (Val (cond (k == 0) b x) a) refl)))
    one_plain c s n (Unary o) vs a = by_number _ vs _ _ (λ x vs. to n s vs _ (Val _ a) refl)
    one_plain c s n (Binary o) vs a = by_number _ vs _ _ (λ y vs. by_number _ vs _ _ (λ x vs. by_answer n _ _ _ (λ r. to n s vs _ (Val _ a) refl)))
    one_plain c s n (Test o) vs a = by_number _ vs _ _ (λ x vs. to n s vs _ (Val _ a) refl)
    one_plain c s n (Compare o) vs a = by_number _ vs _ _ (λ y vs. by_number _ vs _ _ (λ x vs. to n s vs _ (Val _ a) refl))
    one_plain c s n (Convert o) vs a = by_number _ vs _ _ (λ x vs. to n s vs _ (Val _ a) refl)
    one_plain c s n (LocalGet x) vs a = by_found (slice_get s.locals x) _ _ (λ v. to n s vs _ (Val v a) refl)
    one_plain c s n (LocalSet x) vs a = by_value vs _ _ (λ v vs. by_found (slice_get s.locals x) _ _ (λ old. to n _ vs _ a refl))
    one_plain c s n (LocalTee x) vs a = by_value vs _ _ (λ v vs. to n s vs _ (Val v (Val v (Free (Plain (LocalSet x)) a))) refl)
    one_plain c s n (GlobalGet x) vs a = by_found (slice_get s.globals x) _ _ (λ v. to n s vs _ (Val v a) refl)
    one_plain c s n (GlobalSet x) vs a = by_value vs _ _ (λ v vs. by_found (slice_get s.globals x) _ _ (λ old. to n _ vs _ a refl))
    one_plain c s n (Load o align offset) vs a = by_number I32 vs _ _ (λ x vs. by_load n s (load_type o) (load_width o) (extended o) (x + offset) vs a)
    one_plain c s n (Store o align offset) vs a = by_number _ vs _ _ (λ y vs. by_number I32 vs _ _ (λ x vs. by_store n s (store_width o) (x + offset) y vs a))
    one_plain c s n MemorySize vs a = to n s vs _ (Val _ a) refl
    one_plain c s n MemoryGrow vs a = by_number I32 vs _ _ (λ x vs. by_growth c n s x vs a)
    one_plain c s n (Br l) vs a = record { is = refl }
    one_plain c s n (BrIf l) vs a = by_number I32 vs _ _ (λ k vs. to n s vs _ (cond (k == 0) a (Free (Plain (Br l)) a)) (by_branch (k == 0) l a))
    one_plain c s n Return vs a = record { is = refl }
    one_plain c s n (Call f) vs a = to n s vs _ (Invoke f a) refl
    one_plain c s n (CallIndirect ty) vs a = by_number I32 vs _ _ (λ k vs. by_found (slice_get c.deployed.tree.types ty) _ _ (λ type. by_element c n s type (slice_get s.table k) vs a))

    one : (c : Contract) (s : State) (n at : ℕ) (i : Instr) (vs : List Value) (a : Seq) → Joins (execute c s n at i vs (joined a t)) (execute c s n at i vs a)
    unfolding execute
    one c s n at (Plain i) vs a = one_plain c s n i vs a
    one c s n at (BrTable ls l) vs a = by_number I32 vs _ _ (λ k vs. to n s vs _ (Free (Plain (Br (unwrap_or (slice_get ls k) l))) a) refl)
    one c s n at (Block r b) vs a = to n s vs _ (Label _ at _ _ a) refl
    one c s n at (Loop r b) vs a = to n s vs _ (Label _ at _ _ a) refl
    one c s n at (If r p q) vs a = by_number I32 vs _ _ (λ k vs. to n s vs _ (Label _ at _ _ a) refl)

    one_label : (s : State) (n at : ℕ) (k : Instrs) (vs : List Value) (a : Seq) (x : Next) → Joins (in_label s n at k vs (joined a t) x) (in_label s n at k vs a x)
    one_label s n at k vs a (Goes charge s' inside) = to charge s' vs _ (Label n at k inside a) refl
    one_label s n at k vs a (Traps charge c) = falls charge c
    one_label s n at k vs a (Asks o then_on) = record { is = ap (Asks o) (fun_ext (λ r. under vs (Label n at k (then_on r) a))) }
    one_label s n at k vs a (Branches charge zero ws) = by_values n ws _ _ (λ top below. to charge s vs _ (values top (code at k a)) (ap (values top) (in_code at k a) ∙ under top (code at k a)))
    one_label s n at k vs a (Branches charge (suc l) ws) = record { is = refl }
    one_label s n at k vs a (Returns charge ws) = record { is = refl }
    one_label s n at k vs a (Ended ws) = to 0 s vs _ (values ws a) (under ws a)
    one_label s n at k vs a Stuck = stuck

    one_frame : (s : State) (f n : ℕ) (ls vs : List Value) (a : Seq) (x : Next) → Joins (in_frame s f n ls vs (joined a t) x) (in_frame s f n ls vs a x)
    one_frame s f n ls vs a (Goes charge s' inside) = to charge _ vs _ (Frame f n s'.locals inside a) refl
    one_frame s f n ls vs a (Traps charge c) = falls charge c
    one_frame s f n ls vs a (Asks o then_on) = record { is = ap (Asks o) (fun_ext (λ r. under vs (Frame f n ls (then_on r) a))) }
    one_frame s f n ls vs a (Branches charge l ws) = stuck
    one_frame s f n ls vs a (Returns charge ws) = by_values n ws _ _ (λ top below. to charge s vs _ (values top a) (under top a))
    one_frame s f n ls vs a (Ended ws) = to 0 s vs _ (values ws a) (under ws a)
    one_frame s f n ls vs a Stuck = stuck

    one_reply : (r : Reply) (a : Seq) → replied r (joined a t) ≡ joined (replied r a) t
    one_reply reply.Nothing a = refl
    one_reply (reply.I32 x) a = refl
    one_reply (reply.I64 x) a = refl

    one_invoke : (c : Contract) (frames : ℕ) (s : State) (f : ℕ) (g : Function) (args vs : List Value) (a : Seq) → Joins (invoke c frames s f g args vs (joined a t)) (invoke c frames s f g args vs a)
    one_invoke c frames s f (Hosted h) args vs a = record { is = ap (Asks (effect_of c.number h args)) (fun_ext (λ r. ap (values vs) (one_reply r a) ∙ under vs (replied r a))) }
    one_invoke c frames s f (Defined ty g) args vs a =
        either (nat_lt frames frame_limit) _ _ (Traps 0 trap.CallDepth) (Traps 0 trap.CallDepth)
        (to 0 s vs _ (Frame f (length ty.results) (args ++ map zero_of g.locals) (Label (length ty.results) 0 nothing (code 0 g.body End) End) a) refl) (falls 0 _)

  -- what comes next, with the other one behind
  pub reduce_joined : (c : Contract) (frames : ℕ) (s : State) (vs : List Value) (q : Seq) → reduce c frames s vs (joined q t) ≡ joined_next t (λ ws. reduce c frames s ws t) (reduce c frames s vs q)
  unfolding reduce
  reduce_joined c frames s vs End = refl
  reduce_joined c frames s vs (Val v rest) = reduce_joined c frames s (v ∷ vs) rest
  reduce_joined c frames s vs (Code at i rest) = (one (λ ws. reduce c frames s ws t) c s 1 at i vs rest).is
  reduce_joined c frames s vs (Free i rest) = (one (λ ws. reduce c frames s ws t) c s 0 0 i vs rest).is
  reduce_joined c frames s vs (Label n at k inside rest) = (one_label (λ ws. reduce c frames s ws t) s n at k vs rest (reduce c frames s [] inside)).is
  reduce_joined c frames s vs (Frame f n ls inside rest) = (one_frame (λ ws. reduce c frames s ws t) s f n ls vs rest (reduce c (frames + 1) (record s { locals = ls }) [] inside)).is
  reduce_joined c frames s vs (Invoke f rest) =
      (by_found (λ ws. reduce c frames s ws t) (function_at c.deployed f) _ _ (λ g. by_values (λ ws. reduce c frames s ws t) _ vs _ _ (λ top below. one_invoke (λ ws. reduce c frames s ws t) c frames s f g (reverse top) below rest))).is

  -- the same for a reduction, and for free ones
  pub reduces_joined : (c : Contract) (n : ℕ) (a b : Config) → Reduces c a n b → Reduces c (with_tail t a) n (with_tail t b)
  reduces_joined c n _ _ (goes s q charge s' q' e) = goes s (joined q t) charge s' (joined q' t) (reduce_joined c 0 s [] q ∙ ap (joined_next t (λ ws. reduce c 0 s ws t)) e)
  reduces_joined c n _ _ (traps s q charge code e) = traps s (joined q t) charge code (reduce_joined c 0 s [] q ∙ ap (joined_next t (λ ws. reduce c 0 s ws t)) e)

  pub frees_joined : (c : Contract) (a b : Config) → Frees c a b → Frees c (with_tail t a) (with_tail t b)
  frees_joined c _ _ (none x) = none (with_tail t x)
  frees_joined c _ _ (one_more x y z h f) = one_more _ _ _ (reduces_joined c 0 x y h) (frees_joined c y z f)

  -- what is stuck is stuck with another one behind it, and an instruction that is to come is to come
  pub stuck_joined : (c : Contract) (s : State) (q : Seq) → IsStuck (next c s q) → IsStuck (next c s (joined q t))
  stuck_joined c s q h = subst IsStuck (sym (reduce_joined c 0 s [] q)) (by (next c s q) h)
    where
      by : (x : Next) → IsStuck x → IsStuck (joined_next t (λ ws. reduce c 0 s ws t) x)
      by (Goes charge s' q') h = absurd h
      by (Traps charge code) h = absurd h
      by (Asks o then_on) h = absurd h
      by (Branches charge l vs) h = tt
      by (Returns charge vs) h = tt
      by (Ended vs) h = absurd h
      by Stuck h = tt

  pub charged_joined : (c : Contract) (s : State) (q : Seq) → IsCharged (next c s q) → IsCharged (next c s (joined q t))
  charged_joined c s q h = subst IsCharged (sym (reduce_joined c 0 s [] q)) (by (next c s q) h)
    where
      by : (x : Next) → IsCharged x → IsCharged (joined_next t (λ ws. reduce c 0 s ws t) x)
      by (Goes charge s' q') h = h
      by (Traps charge code) h = h
      by (Asks o then_on) h = absurd h
      by (Branches charge l vs) h = absurd h
      by (Returns charge vs) h = absurd h
      by (Ended vs) h = absurd h
      by Stuck h = absurd h

-- an instruction is to come, or the run has ended: nothing waits behind an end
pub at_rest : (c : Contract) (v : View) (tail : Seq) → IsFine c v → IsReady v → (v.code ≡ [] → tail ≡ End) → IsAtRest c (with_tail tail (config v))
at_rest c v tail fine ready last = by_code v.code refl
  where
    by_code : (is : List Item) → v.code ≡ is → IsAtRest c (with_tail tail (config v))
    by_code [] e = subst (λ (t : Seq). IsAtRest c (with_tail t (config v))) (sym (last e)) (subst (λ (x : Config). IsAtRest c x) (sym (with_no_tail (config v))) (ended _ _ _ (is_ended c v e (ready e))))
    by_code (i ∷ is) e = to_come _ _ (charged_joined tail c (state v) (sequence v) (is_charged c v i is fine e))
