-- The numbers that give the place take no part in the reduction.
use Rattle.std.proofs.Common.{◌≡◌, ℕ, zero, suc, ◌+◌, Bool, true, false, cond, List, [], ◌∷◌, ◌++◌, refl, sym, ap, ap₂, ◌∙◌, Option, Some, None, length, nat_le, nat_lt, ◌==◌, map, reverse}
use Rattle.std.specs.Prelude.{Result, Ok, Err, slice_get, take, drop, unwrap_or}
use mathlib.Core.Path.{fun_ext}
use Rattle.wtypes.specs.declared.ValType.{ValType}
use Rattle.wtypes.specs.declared.ValType.TheVariants.{I32}
use Rattle.wtypes.specs.declared.Value.{Value}
use Rattle.wtypes.specs.declared.Value.TheVariants as value
use Rattle.wtypes.specs.declared.TrapCode.{TrapCode}
use Rattle.wtypes.specs.declared.TrapCode.TheVariants as trap
use Rattle.wtypes.specs.declared.PlainInstr.{PlainInstr}
use Rattle.wtypes.specs.declared.PlainInstr.TheVariants.{Unreachable, Nop, Br, BrIf, Return, Call, CallIndirect, Drop, Select, LocalGet, LocalSet, LocalTee, GlobalGet, GlobalSet, Load, Store, MemorySize, MemoryGrow, Const, Unary, Binary, Test, Compare, Convert}
use Rattle.spec_modules.specs.Syntax.{Instr, Plain, BrTable, Block, Loop, If, Instrs, nothing, seq, FuncType}
use Rattle.spec_ledger.specs.declared.Reply.{Reply}
use Rattle.spec_ledger.specs.declared.Reply.TheVariants as reply
use Rattle.spec_modules.specs.Operators.{same_type, type_of, bits_of}
use Rattle.spec_modules.specs.Storage.{load_type, load_width, extended, store_width}
use Rattle.spec_modules.specs.Memory.{load, store}
use Rattle.spec_execution.specs.Configuration.{Contract, Function, Hosted, Defined, function_at, function_type, Seq, End, Val, Code, Free, Label, Frame, Invoke, code, values, State}
use Rattle.spec_modules.specs.Profile.{frame_limit}
use Rattle.spec_execution.specs.Reduction.{Next, Goes, Traps, Asks, Branches, Returns, Ended, Stuck, with_number, with_value, with_values, found, answered, loaded, stored, grown, most_pages, pages, same_function_type, effect_of, zero_of, indirect, replied, invoke, execute_plain, execute, in_label, in_frame, reduce}
use Rattle.spec_execution.specs.Numbers.{forget, forget_next, NumbersTakeNoPart}

-- forgetting twice is forgetting once
twice : (s : Seq) → forget s ≡ forget (forget s)
twice End = refl
twice (Val v rest) = ap (Val v) (twice rest)
twice (Code at i rest) = ap (Code 0 i) (twice rest)
twice (Free i rest) = ap (Free i) (twice rest)
twice (Label n at k inside rest) = ap₂ (Label n 0 k) (twice inside) (twice rest)
twice (Frame f n ls inside rest) = ap₂ (Frame 0 n ls) (twice inside) (twice rest)
twice (Invoke f rest) = ap (Invoke f) (twice rest)

under : (vs : List Value) (a b : Seq) → forget a ≡ forget b → forget (values vs a) ≡ forget (values vs b)
under [] a b e = e
under (v ∷ vs) a b e = under vs (Val v a) (Val v b) (ap (Val v) e)

in_code : (is : Instrs) (m n : ℕ) (a b : Seq) → forget a ≡ forget b → forget (code m is a) ≡ forget (code n is b)
in_code nothing m n a b e = e
in_code (seq i is) m n a b e = ap (Code 0 i) (in_code is _ _ a b e)

record SameNext (a b : Next) : Type 0 where
  is : forget_next a ≡ forget_next b

same : {a : Next} → SameNext a a
same = record { is = refl }

to_same : (n : ℕ) (s : State) (vs : List Value) (a b : Seq) → forget a ≡ forget b → SameNext (Goes n s (values vs a)) (Goes n s (values vs b))
to_same n s vs a b e = record { is = ap (Goes n s) (under vs a b e) }

to_val : (n : ℕ) (s : State) (vs : List Value) (v : Value) (a : Seq) → SameNext (Goes n s (values vs (Val v a))) (Goes n s (values vs (Val v (forget a))))
to_val n s vs v a = to_same n s vs (Val v a) (Val v (forget a)) (ap (Val v) (twice a))

to_free : (n : ℕ) (s : State) (vs : List Value) (i : Instr) (a : Seq) → SameNext (Goes n s (values vs (Free i a))) (Goes n s (values vs (Free i (forget a))))
to_free n s vs i a = to_same n s vs (Free i a) (Free i (forget a)) (ap (Free i) (twice a))

either : (b : Bool) (x x' y y' : Next) → SameNext x x' → SameNext y y' → SameNext (cond b x y) (cond b x' y')
either true x x' y y' p q = p
either false x x' y y' p q = q

by_number : (t : ValType) (vs : List Value) (f g : ℕ → List Value → Next) → ((k : ℕ) (vs : List Value) → SameNext (f k vs) (g k vs)) → SameNext (with_number t vs f) (with_number t vs g)
by_number t [] f g h = same
by_number t (v ∷ vs) f g h = either (same_type t (type_of v)) (f (bits_of v) vs) (g (bits_of v) vs) Stuck Stuck (h (bits_of v) vs) same

by_value : (vs : List Value) (f g : Value → List Value → Next) → ((v : Value) (vs : List Value) → SameNext (f v vs) (g v vs)) → SameNext (with_value vs f) (with_value vs g)
by_value [] f g h = same
by_value (v ∷ vs) f g h = h v vs

by_values : (n : ℕ) (vs : List Value) (f g : List Value → List Value → Next) → ((top below : List Value) → SameNext (f top below) (g top below)) → SameNext (with_values n vs f) (with_values n vs g)
by_values n vs f g h = either (nat_le n (length vs)) (f (take n vs) (drop n vs)) (g (take n vs) (drop n vs)) Stuck Stuck (h (take n vs) (drop n vs)) same

by_found : {X : Type 0} (x : Option X) (f g : X → Next) → ((x : X) → SameNext (f x) (g x)) → SameNext (found x f) (found x g)
by_found None f g h = same
by_found (Some x) f g h = h x

by_answer : {X : Type 0} (n : ℕ) (r : Result X TrapCode) (f g : X → Next) → ((x : X) → SameNext (f x) (g x)) → SameNext (answered n r f) (answered n r g)
by_answer n (Ok x) f g h = h x
by_answer n (Err t) f g h = same

by_branch : (b : Bool) (l : ℕ) (a : Seq) → forget (cond b a (Free (Plain (Br l)) a)) ≡ forget (cond b (forget a) (Free (Plain (Br l)) (forget a)))
by_branch true l a = twice a
by_branch false l a = ap (Free (Plain (Br l))) (twice a)

by_element : (c : Contract) (n : ℕ) (s : State) (t : FuncType) (e : Option (Option ℕ)) (vs : List Value) (a : Seq) → SameNext (indirect c n s t e vs a) (indirect c n s t e vs (forget a))
by_element c n s t None vs a = same
by_element c n s t (Some None) vs a = same
by_element c n s t (Some (Some f)) vs a = by_found (function_at c.deployed f) _ _ (λ g. either (same_function_type t (function_type g)) _ _ (Traps n trap.TypeMismatch) (Traps n trap.TypeMismatch) (to_same n s vs (Invoke f a) (Invoke f (forget a)) (ap (Invoke f) (twice a))) same)

by_load : (n : ℕ) (s : State) (t : ValType) (bytes : ℕ) (extend : ℕ → ℕ) (at : ℕ) (vs : List Value) (a : Seq) → SameNext (loaded n s t bytes extend at vs a) (loaded n s t bytes extend at vs (forget a))
unfolding loaded
by_load n s t bytes extend at vs a = by_answer n (load s.memory at bytes) _ _ (λ x. to_val n s vs _ a)

by_store : (n : ℕ) (s : State) (bytes at x : ℕ) (vs : List Value) (a : Seq) → SameNext (stored n s bytes at x vs a) (stored n s bytes at x vs (forget a))
unfolding stored
by_store n s bytes at x vs a = by_answer n (store s.memory at bytes x) _ _ (λ memory. to_same n _ vs _ _ (twice a))

by_growth : (c : Contract) (n : ℕ) (s : State) (delta : ℕ) (vs : List Value) (a : Seq) → SameNext (grown c n s delta vs a) (grown c n s delta vs (forget a))
unfolding grown
by_growth c n s delta vs a = either (nat_le (pages s.memory + delta) (most_pages c.version c.deployed.tree.memories)) _ _ _ _
    (to_val n _ vs _ a) (to_val n s vs _ a)

one_plain : (c : Contract) (s : State) (n : ℕ) (i : PlainInstr) (vs : List Value) (a : Seq) → SameNext (execute_plain c s n i vs a) (execute_plain c s n i vs (forget a))
unfolding execute_plain
one_plain c s n Unreachable vs a = same
one_plain c s n Nop vs a = to_same n s vs _ _ (twice a)
one_plain c s n (Const v) vs a = to_same n s vs _ _ (ap (Val v) (twice a))
one_plain c s n Drop vs a = by_value vs _ _ (λ v vs. to_same n s vs _ _ (twice a))
one_plain c s n Select vs a = by_number I32 vs _ _ (λ k vs. by_value vs _ _ (λ b vs. by_value vs _ _ (λ x vs. to_val n s vs (cond (k == 0) b x) a)))
one_plain c s n (Unary o) vs a = by_number _ vs _ _ (λ x vs. to_val n s vs _ a)
one_plain c s n (Binary o) vs a = by_number _ vs _ _ (λ y vs. by_number _ vs _ _ (λ x vs. by_answer n _ _ _ (λ r. to_val n s vs _ a)))
one_plain c s n (Test o) vs a = by_number _ vs _ _ (λ x vs. to_val n s vs _ a)
one_plain c s n (Compare o) vs a = by_number _ vs _ _ (λ y vs. by_number _ vs _ _ (λ x vs. to_val n s vs _ a))
one_plain c s n (Convert o) vs a = by_number _ vs _ _ (λ x vs. to_val n s vs _ a)
one_plain c s n (LocalGet x) vs a = by_found (slice_get s.locals x) _ _ (λ v. to_same n s vs _ _ (ap (Val v) (twice a)))
one_plain c s n (LocalSet x) vs a = by_value vs _ _ (λ v vs. by_found (slice_get s.locals x) _ _ (λ old. to_same n _ vs _ _ (twice a)))
one_plain c s n (LocalTee x) vs a = by_value vs _ _ (λ v vs. to_same n s vs _ _ (ap (λ r. Val v (Val v (Free (Plain (LocalSet x)) r))) (twice a)))
one_plain c s n (GlobalGet x) vs a = by_found (slice_get s.globals x) _ _ (λ v. to_same n s vs _ _ (ap (Val v) (twice a)))
one_plain c s n (GlobalSet x) vs a = by_value vs _ _ (λ v vs. by_found (slice_get s.globals x) _ _ (λ old. to_same n _ vs _ _ (twice a)))
one_plain c s n (Load o align offset) vs a = by_number I32 vs _ _ (λ x vs. by_load n s (load_type o) (load_width o) (extended o) (x + offset) vs a)
one_plain c s n (Store o align offset) vs a = by_number _ vs _ _ (λ y vs. by_number I32 vs _ _ (λ x vs. by_store n s (store_width o) (x + offset) y vs a))
one_plain c s n MemorySize vs a = to_val n s vs _ a
one_plain c s n MemoryGrow vs a = by_number I32 vs _ _ (λ x vs. by_growth c n s x vs a)
one_plain c s n (Br l) vs a = same
one_plain c s n (BrIf l) vs a = by_number I32 vs _ _ (λ k vs. to_same n s vs _ _ (by_branch (k == 0) l a))
one_plain c s n Return vs a = same
one_plain c s n (Call f) vs a = to_same n s vs _ _ (ap (Invoke f) (twice a))
one_plain c s n (CallIndirect t) vs a = by_number I32 vs _ _ (λ k vs. by_found (slice_get c.deployed.tree.types t) _ _ (λ type. by_element c n s type (slice_get s.table k) vs a))

label_same : (n at : ℕ) (k : Instrs) (x y : Seq) (a : Seq) → forget x ≡ forget y → forget (Label n at k x a) ≡ forget (Label n 0 k y (forget a))
label_same n at k x y a e = ap₂ (Label n 0 k) e (twice a)

either_code : (b : Bool) (at m : ℕ) (t e : Instrs) → forget (cond b (code (at + 1 + m) e End) (code (at + 1) t End)) ≡ forget (cond b (code (0 + 1 + m) e End) (code (0 + 1) t End))
either_code true at m t e = in_code e _ _ End End refl
either_code false at m t e = in_code t _ _ End End refl

one : (c : Contract) (s : State) (n at : ℕ) (i : Instr) (vs : List Value) (a : Seq) → SameNext (execute c s n at i vs a) (execute c s n 0 i vs (forget a))
unfolding execute
one c s n at (Plain i) vs a = one_plain c s n i vs a
one c s n at (BrTable ls l) vs a = by_number I32 vs _ _ (λ k vs. to_free n s vs (Plain (Br (unwrap_or (slice_get ls k) l))) a)
one c s n at (Block r b) vs a = to_same n s vs _ _ (label_same _ at _ _ _ a (in_code b _ _ End End refl))
one c s n at (Loop r b) vs a = to_same n s vs _ _ (label_same _ at _ _ _ a (in_code b _ _ End End refl))
one c s n at (If r t e) vs a = by_number I32 vs _ _ (λ k vs. to_same n s vs _ _ (label_same _ at _ _ _ a (either_code (k == 0) at _ t e)))

one_label : (s : State) (n at : ℕ) (k : Instrs) (vs : List Value) (a : Seq) (x : Next) → SameNext (in_label s n at k vs a x) (in_label s n 0 k vs (forget a) (forget_next x))
one_label s n at k vs a (Goes charge s' inside) = to_same charge s' vs _ _ (label_same n at k inside (forget inside) a (twice inside))
one_label s n at k vs a (Traps charge t) = same
one_label s n at k vs a (Asks o go) = record { is = ap (Asks o) (fun_ext (λ r. under vs _ _ (label_same n at k (go r) (forget (go r)) a (twice (go r))))) }
one_label s n at k vs a (Branches charge zero ws) = by_values n ws _ _ (λ top below. to_same charge s vs _ _ (under top _ _ (in_code k at 0 a (forget a) (twice a))))
one_label s n at k vs a (Branches charge (suc l) ws) = same
one_label s n at k vs a (Returns charge ws) = same
one_label s n at k vs a (Ended ws) = to_same 0 s vs _ _ (under ws _ _ (twice a))
one_label s n at k vs a Stuck = same

frame_same : (f n : ℕ) (ls : List Value) (x y a : Seq) → forget x ≡ forget y → forget (Frame f n ls x a) ≡ forget (Frame 0 n ls y (forget a))
frame_same f n ls x y a e = ap₂ (Frame 0 n ls) e (twice a)

one_frame : (s : State) (f n : ℕ) (ls vs : List Value) (a : Seq) (x : Next) → SameNext (in_frame s f n ls vs a x) (in_frame s 0 n ls vs (forget a) (forget_next x))
one_frame s f n ls vs a (Goes charge s' inside) = to_same charge _ vs _ _ (frame_same f n s'.locals inside (forget inside) a (twice inside))
one_frame s f n ls vs a (Traps charge t) = same
one_frame s f n ls vs a (Asks o go) = record { is = ap (Asks o) (fun_ext (λ r. under vs _ _ (frame_same f n ls (go r) (forget (go r)) a (twice (go r))))) }
one_frame s f n ls vs a (Branches charge l ws) = same
one_frame s f n ls vs a (Returns charge ws) = by_values n ws _ _ (λ top below. to_same charge s vs _ _ (under top _ _ (twice a)))
one_frame s f n ls vs a (Ended ws) = to_same 0 s vs _ _ (under ws _ _ (twice a))
one_frame s f n ls vs a Stuck = same

one_reply : (r : Reply) (a : Seq) → forget (replied r a) ≡ forget (replied r (forget a))
one_reply reply.Nothing a = twice a
one_reply (reply.I32 x) a = ap (Val (value.I32 x)) (twice a)
one_reply (reply.I64 x) a = ap (Val (value.I64 x)) (twice a)

one_invoke : (c : Contract) (frames : ℕ) (s : State) (f : ℕ) (g : Function) (args vs : List Value) (a : Seq) → SameNext (invoke c frames s f g args vs a) (invoke c frames s f g args vs (forget a))
one_invoke c frames s f (Hosted h) args vs a = record { is = ap (Asks (effect_of c.number h args)) (fun_ext (λ r. under vs _ _ (one_reply r a))) }
one_invoke c frames s f (Defined t g) args vs a =
    let n = length t.results in
    let locals = args ++ map zero_of g.locals in
    let body = Label n 0 nothing (code 0 g.body End) End in
    either (nat_lt frames frame_limit) _ _ (Traps 0 trap.CallDepth) (Traps 0 trap.CallDepth)
    (to_same 0 s vs (Frame f n locals body a) (Frame f n locals body (forget a)) (ap (Frame 0 n locals (forget body)) (twice a))) same

part : (c : Contract) (frames : ℕ) (s : State) (vs : List Value) (seq : Seq) → SameNext (reduce c frames s vs seq) (reduce c frames s vs (forget seq))
unfolding reduce
part c frames s vs End = same
part c frames s vs (Val v rest) = part c frames s (v ∷ vs) rest
part c frames s vs (Code at i rest) = one c s 1 at i vs rest
part c frames s vs (Free i rest) = one c s 0 0 i vs rest
part c frames s vs (Label n at k inside rest) = record {
  is =
      (one_label s n at k vs rest (reduce c frames s [] inside)).is
      ∙ ap (λ x. forget_next (in_label s n 0 k vs (forget rest) x)) (part c frames s [] inside).is
      ∙ ap (λ r. forget_next (in_label s n 0 k vs r (forget_next (reduce c frames s [] (forget inside))))) (twice rest)
      ∙ sym (one_label s n 0 k vs (forget rest) (reduce c frames s [] (forget inside))).is;
}
part c frames s vs (Frame f n ls inside rest) =
    let s' = record s { locals = ls } in record {
      is =
          (one_frame s f n ls vs rest (reduce c (frames + 1) s' [] inside)).is
          ∙ ap (λ x. forget_next (in_frame s 0 n ls vs (forget rest) x)) (part c (frames + 1) s' [] inside).is
          ∙ ap (λ r. forget_next (in_frame s 0 n ls vs r (forget_next (reduce c (frames + 1) s' [] (forget inside))))) (twice rest)
          ∙ sym (one_frame s 0 n ls vs (forget rest) (reduce c (frames + 1) s' [] (forget inside))).is;
    }
part c frames s vs (Invoke f rest) =
    by_found (function_at c.deployed f) _ _ (λ g. by_values _ vs _ _ (λ top below. one_invoke c frames s f g (reverse top) below rest))

pub take_no_part : NumbersTakeNoPart
take_no_part c frames s vs q = (part c frames s vs q).is
