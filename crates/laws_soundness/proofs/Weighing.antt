-- A reduction charges 1 or nothing, and what is free makes the sequence lighter.
use Rattle.std.proofs.Common.{◌≡◌, ℕ, zero, suc, ◌+◌, ◌<◌, ◌≤◌, Bool, true, false, cond, List, [], ◌∷◌, ◌++◌, refl, arith, Option, Some, None, length, nat_le, nat_lt, ◌==◌, map, reverse}
use Rattle.std.specs.Prelude.{Result, Ok, Err, slice_get, take, drop, unwrap_or}
use Rattle.wtypes.specs.declared.ValType.{ValType}
use Rattle.wtypes.specs.declared.ValType.TheVariants.{I32}
use Rattle.wtypes.specs.declared.Value.{Value}
use Rattle.wtypes.specs.declared.TrapCode.{TrapCode}
use Rattle.wtypes.specs.declared.TrapCode.TheVariants as trap
use Rattle.wtypes.specs.declared.PlainInstr.{PlainInstr}
use Rattle.wtypes.specs.declared.PlainInstr.TheVariants.{Unreachable, Nop, Br, BrIf, Return, Call, CallIndirect, Drop, Select, LocalGet, LocalSet, LocalTee, GlobalGet, GlobalSet, Load, Store, MemorySize, MemoryGrow, Const, Unary, Binary, Test, Compare, Convert}
use Rattle.spec_modules.specs.Syntax.{Instr, Plain, BrTable, Block, Loop, If, Instrs, nothing, seq, FuncType}
use Rattle.spec_modules.specs.Shape.{size}
use Rattle.spec_modules.specs.Profile.{frame_limit}
use Rattle.spec_ledger.specs.declared.Reply.{Reply}
use Rattle.spec_ledger.specs.declared.Reply.TheVariants as reply
use Rattle.spec_modules.specs.Operators.{same_type, type_of, bits_of}
use Rattle.spec_modules.specs.Storage.{load_type, load_width, extended, store_width}
use Rattle.spec_modules.specs.Memory.{load, store}
use Rattle.spec_execution.specs.Configuration.{Contract, Function, Hosted, Defined, function_at, function_type, Seq, End, Val, Code, Free, Label, Frame, Invoke, code, values, State, instr_size}
use Rattle.spec_execution.specs.Reduction.{Next, Goes, Traps, Asks, Branches, Returns, Ended, Stuck, with_number, with_value, with_values, found, answered, arity, loaded, stored, grown, most_pages, pages, same_function_type, zero_of, indirect, replied, invoke, execute_plain, execute, in_label, in_frame, reduce}

-- ---- weight: an upper bound of the free reductions until an instruction is to come

abbrev pub plain_weight : PlainInstr → ℕ
plain_weight (Br l) = 1
plain_weight (LocalSet x) = 1
plain_weight _ = 4

abbrev pub free_weight : Instr → ℕ
free_weight (Plain i) = plain_weight i
free_weight _ = 4

abbrev pub weight : Seq → ℕ
weight End = 0
weight (Val v rest) = weight rest
weight (Code n i rest) = weight rest
weight (Free i rest) = free_weight i + weight rest
weight (Label n at k inside rest) = 1 + weight inside + weight rest
weight (Frame f n ls inside rest) = 1 + weight inside + weight rest
weight (Invoke f rest) = 3 + weight rest

values_weigh : (vs : List Value) (a : Seq) → weight (values vs a) ≡ weight a
values_weigh [] a = refl
values_weigh (v ∷ vs) a = values_weigh vs (Val v a)

code_weighs : (is : Instrs) (n : ℕ) (a : Seq) → weight (code n is a) ≡ weight a
code_weighs nothing n a = refl
code_weighs (seq i is) n a = code_weighs is (n + instr_size i) a

-- ---- one instruction

-- it charges n, and what it gives is lighter than m
abbrev pub Lighter : (n m : ℕ) → Next → Type 0
Lighter n m (Goes charge s q) = (charge ≡ n) × (weight q < m)
Lighter n m (Traps charge t) = charge ≡ n
Lighter n m (Branches charge l vs) = charge ≡ n
Lighter n m (Returns charge vs) = charge ≡ n
Lighter n m (Asks op go) = ⊥
Lighter n m (Ended vs) = ⊥
Lighter n m Stuck = Unit {0}

module _ (c : Contract) (n m : ℕ) where
  pub record Kept (x : Next) : Type 0 where
    pub is : Lighter n m x

  goes : (s : State) (vs : List Value) (a : Seq) → weight a < m → Kept (Goes n s (values vs a))
  goes s vs a lt = record { is = (refl, omega (arith, values_weigh vs a)) }

  no : Kept Stuck
  no = record { is = tt }

  either : (b : Bool) (x y : Next) → Kept x → Kept y → Kept (cond b x y)
  either true x y p q = p
  either false x y p q = q

  by_number : (t : ValType) (vs : List Value) (f : ℕ → List Value → Next) → ((k : ℕ) (vs : List Value) → Kept (f k vs)) → Kept (with_number t vs f)
  by_number t [] f h = no
  by_number t (v ∷ vs) f h = either (same_type t (type_of v)) (f (bits_of v) vs) Stuck (h (bits_of v) vs) no

  by_value : (vs : List Value) (f : Value → List Value → Next) → ((v : Value) (vs : List Value) → Kept (f v vs)) → Kept (with_value vs f)
  by_value [] f h = no
  by_value (v ∷ vs) f h = h v vs

  by_found : {X : Type 0} (x : Option X) (f : X → Next) → ((y : X) → Kept (f y)) → Kept (found x f)
  by_found None f h = no
  by_found (Some x) f h = h x

  trapped : (t : TrapCode) → Kept (Traps n t)
  trapped t = record { is = refl }

  by_answer : {X : Type 0} (r : Result X TrapCode) (f : X → Next) → ((x : X) → Kept (f x)) → Kept (answered n r f)
  by_answer (Ok x) f h = h x
  by_answer (Err t) f h = trapped t

  by_load : (s : State) (t : ValType) (bytes : ℕ) (extend : ℕ → ℕ) (at : ℕ) (vs : List Value) (a : Seq) → weight a < m → Kept (loaded n s t bytes extend at vs a)
  unfolding loaded
  by_load s t bytes extend at vs a p = by_answer (load s.memory at bytes) _ (λ x. goes s vs (Val _ a) p)

  by_store : (s : State) (bytes at x : ℕ) (vs : List Value) (a : Seq) → weight a < m → Kept (stored n s bytes at x vs a)
  unfolding stored
  by_store s bytes at x vs a p = by_answer (store s.memory at bytes x) _ (λ memory. goes _ vs a p)

  by_growth : (s : State) (delta : ℕ) (vs : List Value) (a : Seq) → weight a < m → Kept (grown c n s delta vs a)
  unfolding grown
  by_growth s delta vs a p = either (nat_le (pages s.memory + delta) (most_pages c.version c.deployed.tree.memories)) _ _ (goes _ vs (Val _ a) p) (goes s vs (Val _ a) p)

  by_element : (s : State) (t : FuncType) (e : Option (Option ℕ)) (vs : List Value) (a : Seq) → 3 + weight a < m → Kept (indirect c n s t e vs a)
  by_element s t None vs a p = trapped trap.ElementOutOfTable
  by_element s t (Some None) vs a p = trapped trap.EmptyElement
  by_element s t (Some (Some f)) vs a p = by_found (function_at c.deployed f) _ (λ g. either (same_function_type t (function_type g)) _ (Traps n trap.TypeMismatch) (goes s vs (Invoke f a) p) (trapped trap.TypeMismatch))

  by_branch : (b : Bool) (l : ℕ) (a : Seq) → 1 + weight a < m → weight (cond b a (Free (Plain (Br l)) a)) < m
  by_branch true l a p = omega arith
  by_branch false l a p = p

  one_plain : (s : State) (i : PlainInstr) (vs : List Value) (a : Seq) → plain_weight i + weight a ≤ m → Kept (execute_plain c s n i vs a)
  unfolding execute_plain
  one_plain s Unreachable vs a p = trapped trap.Unreachable
  one_plain s Nop vs a p = goes s vs a (omega arith)
  one_plain s (Const v) vs a p = goes s vs (Val v a) (omega arith)
  one_plain s Drop vs a p = by_value vs _ (λ v vs. goes s vs a (omega arith))
  one_plain s Select vs a p = by_number I32 vs _ (λ k vs. by_value vs _ (λ b vs. by_value vs _ (λ x vs. goes s vs (Val (cond (k == 0) b x) a) (omega arith))))
  one_plain s (Unary o) vs a p = by_number _ vs _ (λ x vs. goes s vs (Val _ a) (omega arith))
  one_plain s (Binary o) vs a p = by_number _ vs _ (λ y vs. by_number _ vs _ (λ x vs. by_answer _ _ (λ r. goes s vs (Val _ a) (omega arith))))
  one_plain s (Test o) vs a p = by_number _ vs _ (λ x vs. goes s vs (Val _ a) (omega arith))
  one_plain s (Compare o) vs a p = by_number _ vs _ (λ y vs. by_number _ vs _ (λ x vs. goes s vs (Val _ a) (omega arith)))
  one_plain s (Convert o) vs a p = by_number _ vs _ (λ x vs. goes s vs (Val _ a) (omega arith))
  one_plain s (LocalGet x) vs a p = by_found (slice_get s.locals x) _ (λ v. goes s vs (Val v a) (omega arith))
  one_plain s (LocalSet x) vs a p = by_value vs _ (λ v vs. by_found (slice_get s.locals x) _ (λ old. goes _ vs a (omega arith)))
  one_plain s (LocalTee x) vs a p = by_value vs _ (λ v vs. goes s vs (Val v (Val v (Free (Plain (LocalSet x)) a))) (omega arith))
  one_plain s (GlobalGet x) vs a p = by_found (slice_get s.globals x) _ (λ v. goes s vs (Val v a) (omega arith))
  one_plain s (GlobalSet x) vs a p = by_value vs _ (λ v vs. by_found (slice_get s.globals x) _ (λ old. goes _ vs a (omega arith)))
  one_plain s (Load o align offset) vs a p = by_number I32 vs _ (λ x vs. by_load s (load_type o) (load_width o) (extended o) (x + offset) vs a (omega arith))
  one_plain s (Store o align offset) vs a p = by_number _ vs _ (λ y vs. by_number I32 vs _ (λ x vs. by_store s (store_width o) (x + offset) y vs a (omega arith)))
  one_plain s MemorySize vs a p = goes s vs (Val _ a) (omega arith)
  one_plain s MemoryGrow vs a p = by_number I32 vs _ (λ x vs. by_growth s x vs a (omega arith))
  one_plain s (Br l) vs a p = record { is = refl }
  one_plain s (BrIf l) vs a p = by_number I32 vs _ (λ k vs. goes s vs _ (by_branch (k == 0) l a (omega arith)))
  one_plain s Return vs a p = record { is = refl }
  one_plain s (Call f) vs a p = goes s vs (Invoke f a) (omega arith)
  one_plain s (CallIndirect t) vs a p = by_number I32 vs _ (λ k vs. by_found (slice_get c.deployed.tree.types t) _ (λ type. by_element s type (slice_get s.table k) vs a (omega arith)))

  entered : (results at : ℕ) (k b : Instrs) (first : ℕ) (a : Seq) → 4 + weight a ≤ m → weight (Label results at k (code first b End) a) < m
  entered results at k b first a p = omega (arith, code_weighs b first End)

  pub one : (s : State) (at : ℕ) (i : Instr) (vs : List Value) (a : Seq) → free_weight i + weight a ≤ m → Kept (execute c s n at i vs a)
  unfolding execute
  one s at (Plain i) vs a p = one_plain s i vs a p
  one s at (BrTable ls l) vs a p = by_number I32 vs _ (λ k vs. goes s vs (Free (Plain (Br (unwrap_or (slice_get ls k) l))) a) (omega arith))
  one s at (Block r b) vs a p = goes s vs (Label (arity r) at nothing (code (at + 1) b End) a) (entered (arity r) at nothing b (at + 1) a p)
  one s at (Loop r b) vs a p = goes s vs (Label 0 at (seq (Loop r b) nothing) (code (at + 1) b End) a) (entered 0 at (seq (Loop r b) nothing) b (at + 1) a p)
  one s at (If r t e) vs a p = by_number I32 vs _ (λ k vs. goes s vs (Label (arity r) at nothing (cond (k == 0) (code (at + 1 + size t) e End) (code (at + 1) t End)) a) (arms (k == 0)))
    where
      arms : (b : Bool) → 1 + weight (cond b (code (at + 1 + size t) e End) (code (at + 1) t End)) + weight a < m
      arms true = omega (arith, code_weighs e (at + 1 + size t) End)
      arms false = omega (arith, code_weighs t (at + 1) End)

-- ---- a sequence

-- a charge is 1; or it is 0, and then this holds
pub data Charge (charge : ℕ) (P : Type 0) : Type 0 where
  one_unit : charge ≡ 1 → Charge charge P
  free : charge ≡ 0 → P → Charge charge P

-- what comes next is charged, or lighter than m
abbrev pub Ending : ℕ → Next → Type 0
Ending m (Goes charge s q) = Charge charge (weight q < m)
Ending m (Traps charge t) = Charge charge (Unit {0})
Ending m (Branches charge l vs) = Charge charge (Unit {0})
Ending m (Returns charge vs) = Charge charge (Unit {0})
Ending m (Asks op go) = (r : Reply) → weight (go r) < m
Ending m _ = Unit {0}

pub record Ends (m : ℕ) (x : Next) : Type 0 where
  pub is : Ending m x

ends : {m : ℕ} {x : Next} → Ending m x → Ends m x
ends p = record { is = p }

freely : {charge : ℕ} {P Q : Type 0} → (P → Q) → Charge charge P → Charge charge Q
freely f (one_unit e) = one_unit e
freely f (free e p) = free e (f p)

cases : (m : ℕ) (b : Bool) (x y : Next) → Ends m x → Ends m y → Ends m (cond b x y)
cases m true x y p q = p
cases m false x y p q = q

by_top : (m n : ℕ) (vs : List Value) (f : List Value → List Value → Next) → ((top below : List Value) → Ends m (f top below)) → Ends m (with_values n vs f)
by_top m n vs f h = cases m (nat_le n (length vs)) (f (take n vs) (drop n vs)) Stuck (h (take n vs) (drop n vs)) (ends tt)

by_there : {X : Type 0} (m : ℕ) (x : Option X) (f : X → Next) → ((y : X) → Ends m (f y)) → Ends m (found x f)
by_there m None f h = ends tt
by_there m (Some x) f h = h x

-- an instruction of the code
charged : (m k : ℕ) (x : Next) → Lighter 1 k x → Ends m x
charged m k (Goes charge s q) h = ends (one_unit h.0)
charged m k (Traps charge t) h = ends (one_unit h)
charged m k (Branches charge l vs) h = ends (one_unit h)
charged m k (Returns charge vs) h = ends (one_unit h)
charged m k (Asks op go) h = absurd h
charged m k (Ended vs) h = ends tt
charged m k Stuck h = ends tt

-- what one has become
freed : (m : ℕ) (x : Next) → Lighter 0 m x → Ends m x
freed m (Goes charge s q) h = ends (free h.0 h.1)
freed m (Traps charge t) h = ends (free h tt)
freed m (Branches charge l vs) h = ends (free h tt)
freed m (Returns charge vs) h = ends (free h tt)
freed m (Asks op go) h = absurd h
freed m (Ended vs) h = ends tt
freed m Stuck h = ends tt

lighter : (m : ℕ) (vs : List Value) (a : Seq) → weight a < m → weight (values vs a) < m
lighter m vs a lt = omega (arith, values_weigh vs a)

twice_lighter : (m : ℕ) (vs ws : List Value) (a : Seq) → weight a < m → weight (values vs (values ws a)) < m
twice_lighter m vs ws a lt = lighter m vs (values ws a) (lighter m ws a lt)

one_label : (s : State) (n at : ℕ) (k : Instrs) (vs : List Value) (m : ℕ) (a : Seq) (x : Next) → Ending m x → Ends (1 + m + weight a) (in_label s n at k vs a x)
one_label s n at k vs m a (Goes charge s' inside) g = ends (freely (λ lt. lighter (1 + m + weight a) vs (Label n at k inside a) (omega arith)) g)
one_label s n at k vs m a (Traps charge t) g = ends g
one_label s n at k vs m a (Asks o go) g = ends (λ r. let lt = g r in lighter (1 + m + weight a) vs (Label n at k (go r) a) (omega arith))
one_label s n at k vs m a (Branches charge zero ws) g =
    by_top (1 + m + weight a) n ws (λ top below. Goes charge s (values vs (values top (code at k a)))) (λ top below. ends (freely (λ _. twice_lighter (1 + m + weight a) vs top (code at k a) (omega (arith, code_weighs k at a))) g))
one_label s n at k vs m a (Branches charge (suc l) ws) g = ends g
one_label s n at k vs m a (Returns charge ws) g = ends g
one_label s n at k vs m a (Ended ws) g = ends (free refl (twice_lighter (1 + m + weight a) vs ws a (omega arith)))
one_label s n at k vs m a Stuck g = ends tt

one_frame : (s : State) (f n : ℕ) (ls vs : List Value) (m : ℕ) (a : Seq) (x : Next) → Ending m x → Ends (1 + m + weight a) (in_frame s f n ls vs a x)
one_frame s f n ls vs m a (Goes charge s' inside) g = ends (freely (λ lt. lighter (1 + m + weight a) vs (Frame f n s'.locals inside a) (omega arith)) g)
one_frame s f n ls vs m a (Traps charge t) g = ends g
one_frame s f n ls vs m a (Asks o go) g = ends (λ r. let lt = g r in lighter (1 + m + weight a) vs (Frame f n ls (go r) a) (omega arith))
one_frame s f n ls vs m a (Branches charge l ws) g = ends tt
one_frame s f n ls vs m a (Returns charge ws) g = by_top (1 + m + weight a) n ws (λ top below. Goes charge s (values vs (values top a))) (λ top below. ends (freely (λ _. twice_lighter (1 + m + weight a) vs top a (omega arith)) g))
one_frame s f n ls vs m a (Ended ws) g = ends (free refl (twice_lighter (1 + m + weight a) vs ws a (omega arith)))
one_frame s f n ls vs m a Stuck g = ends tt

reply_weighs : (r : Reply) (a : Seq) → weight (replied r a) ≡ weight a
reply_weighs reply.Nothing a = refl
reply_weighs (reply.I32 x) a = refl
reply_weighs (reply.I64 x) a = refl

one_invoke : (c : Contract) (frames : ℕ) (s : State) (f : ℕ) (g : Function) (args vs : List Value) (a : Seq) → Ends (3 + weight a) (invoke c frames s f g args vs a)
one_invoke c frames s f (Hosted h) args vs a = ends (λ r. lighter (3 + weight a) vs (replied r a) (omega (arith, reply_weighs r a)))
one_invoke c frames s f (Defined t g) args vs a =
    cases (3 + weight a) (nat_lt frames frame_limit) _ (Traps 0 trap.CallDepth)
    (ends (free refl (lighter (3 + weight a) vs (Frame f (length t.results) (args ++ map zero_of g.locals) (Label (length t.results) 0 nothing (code 0 g.body End) End) a) (omega (arith, code_weighs g.body 0 End)))))
    (ends (free refl tt))

part : (c : Contract) (frames : ℕ) (s : State) (vs : List Value) (q : Seq) → Ends (weight q) (reduce c frames s vs q)
unfolding reduce
part c frames s vs End = ends tt
part c frames s vs (Val v rest) = part c frames s (v ∷ vs) rest
part c frames s vs (Code at i rest) = charged (weight rest) (free_weight i + weight rest) _ (one c 1 (free_weight i + weight rest) s at i vs rest (omega arith)).is
part c frames s vs (Free i rest) = freed (free_weight i + weight rest) _ (one c 0 (free_weight i + weight rest) s 0 i vs rest (omega arith)).is
part c frames s vs (Label n at k inside rest) = one_label s n at k vs (weight inside) rest (reduce c frames s [] inside) (part c frames s [] inside).is
part c frames s vs (Frame f n ls inside rest) = one_frame s f n ls vs (weight inside) rest (reduce c (frames + 1) (record s { locals = ls }) [] inside) (part c (frames + 1) (record s { locals = ls }) [] inside).is
part c frames s vs (Invoke f rest) = by_there (3 + weight rest) (function_at c.deployed f) _ (λ g. by_top (3 + weight rest) _ vs _ (λ top below. one_invoke c frames s f g (reverse top) below rest))

-- a reduction charges 1; or nothing, and then the sequence is lighter
pub weighed : (c : Contract) (frames : ℕ) (s : State) (vs : List Value) (q : Seq) → Ending (weight q) (reduce c frames s vs q)
weighed c frames s vs q = (part c frames s vs q).is
