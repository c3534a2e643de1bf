-- Where no label and no frame is at its end, an instruction of the code is to come, or the run has ended.
use Rattle.spec_modules.specs.Storage.{load_width, store_width}
use Rattle.spec_modules.specs.Memory.{load, store}
use Rattle.std.proofs.Common.{◌≡◌, ◌+◌, ℕ, zero, suc, Bool, true, false, nat_le, List, [], ◌∷◌, length, take, drop, refl, sym, subst, Option, Some, None, Result, Ok, Err, slice_get}
use Rattle.std.specs.Prelude.{if◌then◌else◌, ◌==◌}
use Rattle.wtypes.specs.declared.ValType.TheVariants.{I32}
use Rattle.wtypes.specs.declared.Value.{Value}
use Rattle.wtypes.specs.declared.ValType.{ValType}
use Rattle.wtypes.specs.declared.TrapCode.{TrapCode}
use Rattle.wtypes.specs.declared.PlainInstr.{PlainInstr}
use Rattle.wtypes.specs.declared.PlainInstr.TheVariants.{Unreachable, Nop, Br, BrIf, Return, Call, CallIndirect, Drop, Select, LocalGet, LocalSet, LocalTee, GlobalGet, GlobalSet, Load, Store, MemorySize, MemoryGrow, Const, Unary, Binary, Test, Compare, Convert}
use Rattle.spec_modules.specs.Syntax.{Instr, Plain, BrTable, If, Instrs, nothing, FuncType}
use Rattle.spec_modules.specs.Syntax as syntax
use Rattle.spec_modules.specs.Operators.{same_type, type_of, bits_of, value_of, word, binary, binary_type}
use Rattle.laws_reduction.specs.Meaning.{Item, Scope, Block, Loop, Frame, Open, listed, outer, behind, continuation, height, frames, outermost, at, state, whole, View, sequence, IsFine, Settles}
use Rattle.laws_reduction.specs.Plain.{onto}
use Rattle.laws_reduction.specs.Context.{reduce_put, lift, through}
use Rattle.laws_reduction.specs.Charging.{next_whole}
use Rattle.spec_execution.specs.Configuration.{Contract, function_at, function_type, Seq, Val, End, State, Config, code, values}
use Rattle.spec_execution.specs.Reduction.{Next, Goes, Traps, Asks, Branches, Returns, Ended, Stuck, reduce, execute, execute_plain, loaded, stored, grown, indirect, same_function_type, pages, most_pages, in_label, in_frame, with_value, with_number, with_values, found, answered}
use Rattle.spec_execution.specs.Run.{next, IsStuck, IsCharged}
use Rattle.spec_execution.specs.Turns.{Frees, none, one_more}

-- a step of this charge
abbrev HasCharge : ℕ → Next → Type 0
HasCharge n (Goes charge s x) = charge ≡ n
HasCharge n (Traps charge t) = charge ≡ n
HasCharge n (Asks op go) = ⊥
HasCharge n (Branches charge l vs) = charge ≡ n
HasCharge n (Returns charge vs) = charge ≡ n
HasCharge n (Ended vs) = ⊥
HasCharge n Stuck = Unit {0}

of_test : (n : ℕ) (b : Bool) (x y : Next) → HasCharge n x → HasCharge n y → HasCharge n (if b then x else y)
of_test n true x y h k = h
of_test n false x y h k = k

of_value : (n : ℕ) (vs : List Value) (go : Value → List Value → Next) → ((v : Value) (ws : List Value) → HasCharge n (go v ws)) → HasCharge n (with_value vs go)
of_value n [] go h = tt
of_value n (v ∷ vs) go h = h v vs

of_number : (n : ℕ) (t : ValType) (vs : List Value) (go : ℕ → List Value → Next) → ((x : ℕ) (ws : List Value) → HasCharge n (go x ws)) → HasCharge n (with_number t vs go)
of_number n t [] go h = tt
of_number n t (v ∷ vs) go h = of_test n (same_type t (type_of v)) (go (bits_of v) vs) Stuck (h (bits_of v) vs) tt

of_found : {A : Type 0} (n : ℕ) (o : Option A) (go : A → Next) → ((x : A) → HasCharge n (go x)) → HasCharge n (found o go)
of_found n None go h = tt
of_found n (Some x) go h = h x

of_answer : {X : Type 0} (n : ℕ) (r : Result X TrapCode) (go : X → Next) → ((x : X) → HasCharge n (go x)) → HasCharge n (answered n r go)
of_answer n (Ok x) go h = h x
of_answer n (Err t) go h = refl

of_values : (n a : ℕ) (vs : List Value) (go : List Value → List Value → Next) → ((xs ys : List Value) → HasCharge n (go xs ys)) → HasCharge n (with_values a vs go)
of_values n a vs go h = of_test n (nat_le a (length vs)) (go (take a vs) (drop a vs)) Stuck (h _ _) tt

indirect_charge : (c : Contract) (s : State) (n : ℕ) (t : FuncType) (o : Option (Option ℕ)) (vs : List Value) (rest : Seq) → HasCharge n (indirect c n s t o vs rest)
indirect_charge c s n t None vs rest = refl
indirect_charge c s n t (Some None) vs rest = refl
indirect_charge c s n t (Some (Some f)) vs rest = of_found n (function_at c.deployed f) _ (λ g. of_test n (same_function_type t (function_type g)) _ _ refl refl)

-- an instruction has its charge
plain_charge : (c : Contract) (s : State) (n : ℕ) (op : PlainInstr) (vs : List Value) (rest : Seq) → HasCharge n (execute_plain c s n op vs rest)
unfolding execute_plain loaded stored grown
plain_charge c s n (LocalGet x) vs rest = of_found n (slice_get s.locals x) _ (λ v. refl)
plain_charge c s n (Const k) vs rest = refl
plain_charge c s n (Binary o) vs rest = of_number n _ vs _ (λ x ws. of_number n _ ws _ (λ y us. of_answer n (binary (word (binary_type o)) o y x) (λ z. Goes n s (values us (Val (value_of (binary_type o) z) rest))) (λ z. refl)))
plain_charge c s n Drop vs rest = of_value n vs _ (λ v ws. refl)
plain_charge c s n Unreachable vs rest = refl
plain_charge c s n Nop vs rest = refl
plain_charge c s n Select vs rest = of_number n I32 vs _ (λ k ws. of_value n ws _ (λ b us. of_value n us (λ a ts. Goes n s (values ts (Val (if k == 0 then b else a) rest))) (λ a ts. refl)))
plain_charge c s n (LocalSet x) vs rest = of_value n vs _ (λ v ws. of_found n (slice_get s.locals x) _ (λ old. refl))
plain_charge c s n (LocalTee x) vs rest = of_value n vs _ (λ v ws. refl)
plain_charge c s n (Unary o) vs rest = of_number n _ vs _ (λ x ws. refl)
plain_charge c s n (Test o) vs rest = of_number n _ vs _ (λ x ws. refl)
plain_charge c s n (Compare o) vs rest = of_number n _ vs _ (λ x ws. of_number n _ ws _ (λ y us. refl))
plain_charge c s n (Convert o) vs rest = of_number n _ vs _ (λ x ws. refl)
plain_charge c s n (Call f) vs rest = refl
plain_charge c s n (CallIndirect t) vs rest = of_number n I32 vs _ (λ k ws. of_found n (slice_get c.deployed.tree.types t) _ (λ form. indirect_charge c s n form (slice_get s.table k) ws rest))
plain_charge c s n (Br l) vs rest = refl
plain_charge c s n (BrIf l) vs rest = of_number n I32 vs _ (λ k ws. refl)
plain_charge c s n Return vs rest = refl
plain_charge c s n (GlobalGet x) vs rest = of_found n (slice_get s.globals x) _ (λ v. refl)
plain_charge c s n (Load o align offset) vs rest = of_number n I32 vs _ (λ a ws. of_answer n (load s.memory (a + offset) (load_width o)) _ (λ x. refl))
plain_charge c s n (Store o align offset) vs rest = of_number n _ vs _ (λ x ws. of_number n I32 ws _ (λ a us. of_answer n (store s.memory (a + offset) (store_width o) x) _ (λ memory. refl)))
plain_charge c s n MemorySize vs rest = refl
plain_charge c s n MemoryGrow vs rest = of_number n I32 vs _ (λ k ws. of_test n (nat_le (pages s.memory + k) (most_pages c.version c.deployed.tree.memories)) _ _ refl refl)
plain_charge c s n (GlobalSet x) vs rest = of_value n vs _ (λ v ws. of_found n (slice_get s.globals x) _ (λ old. refl))

charge_of : (c : Contract) (s : State) (n o : ℕ) (i : Instr) (vs : List Value) (rest : Seq) → HasCharge n (execute c s n o i vs rest)
unfolding execute
charge_of c s n o (Plain op) vs rest = plain_charge c s n op vs rest
charge_of c s n o (BrTable ls l) vs rest = of_number n I32 vs _ (λ k ws. refl)
charge_of c s n o (syntax.Block t b) vs rest = refl
charge_of c s n o (syntax.Loop t b) vs rest = refl
charge_of c s n o (If t a b) vs rest = of_number n I32 vs _ (λ k ws. refl)

in_label_charge : (m : ℕ) (s : State) (n o : ℕ) (k : Instrs) (vs : List Value) (rest : Seq) (step : Next) → HasCharge m step → HasCharge m (in_label s n o k vs rest step)
in_label_charge m s n o k vs rest (Goes charge s' x) h = h
in_label_charge m s n o k vs rest (Traps charge t) h = h
in_label_charge m s n o k vs rest (Asks op go) h = absurd h
in_label_charge m s n o k vs rest (Branches charge zero ws) h = of_values m n ws (λ top below. Goes charge s (values vs (values top (code o k rest)))) (λ xs ys. h)
in_label_charge m s n o k vs rest (Branches charge (suc l) ws) h = h
in_label_charge m s n o k vs rest (Returns charge ws) h = h
in_label_charge m s n o k vs rest (Ended ws) h = absurd h
in_label_charge m s n o k vs rest Stuck h = tt

in_frame_charge : (m : ℕ) (s : State) (f n : ℕ) (locals : List Value) (vs : List Value) (rest : Seq) (step : Next) → HasCharge m step → HasCharge m (in_frame s f n locals vs rest step)
in_frame_charge m s f n locals vs rest (Goes charge s' x) h = h
in_frame_charge m s f n locals vs rest (Traps charge t) h = h
in_frame_charge m s f n locals vs rest (Asks op go) h = absurd h
in_frame_charge m s f n locals vs rest (Branches charge l ws) h = tt
in_frame_charge m s f n locals vs rest (Returns charge ws) h = of_values m n ws (λ top below. Goes charge s (values vs (values top rest))) (λ xs ys. h)
in_frame_charge m s f n locals vs rest (Ended ws) h = absurd h
in_frame_charge m s f n locals vs rest Stuck h = tt

through_charge : (m : ℕ) (s : State) (k : Scope) (o a : ℕ) (is : List Item) (locals vs : List Value) (step : Next) → HasCharge m step → HasCharge m (through s k o a is locals vs step)
through_charge m s Block o a is locals vs step h = in_label_charge m (at s locals) a o (continuation Block is) (onto vs []) (listed (behind Block is) End) step h
through_charge m s Loop o a is locals vs step h = in_label_charge m (at s locals) a o (continuation Loop is) (onto vs []) (listed (behind Loop is) End) step h
through_charge m s (Frame f saved) o a is locals vs step h = in_frame_charge m (at s saved) f a locals (onto vs []) (listed (behind (Frame f saved) is) End) (in_label (at s locals) a 0 nothing [] End step) (in_label_charge m (at s locals) a 0 nothing [] End step h)

lift_charge : (m : ℕ) (s : State) (es : List Open) (below locals : List Value) (step : Next) → HasCharge m step → HasCharge m (lift s es below locals step)
lift_charge m s [] below locals step h = h
lift_charge m s (e ∷ es) below locals step h =
    lift_charge m s es (take (height es) below) (outer e.scope locals) (through s e.scope e.ordinal e.arity e.from locals (drop (height es) below) step)
    (through_charge m s e.scope e.ordinal e.arity e.from locals (drop (height es) below) step h)

charged_or_stuck : (step : Next) → HasCharge 1 step → (IsStuck step → ⊥) → IsCharged step
charged_or_stuck (Goes charge s x) h f = h
charged_or_stuck (Traps charge t) h f = h
charged_or_stuck (Asks op go) h f = h
charged_or_stuck (Branches charge l vs) h f = absurd (f tt)
charged_or_stuck (Returns charge vs) h f = absurd (f tt)
charged_or_stuck (Ended vs) h f = h
charged_or_stuck Stuck h f = absurd (f tt)

-- an instruction is to come
pub is_charged : (c : Contract) (v : View) (i : Item) (is : List Item) → IsFine c v → v.code ≡ i ∷ is → IsCharged (next c (state v) (sequence v))
unfolding reduce
is_charged c v i is fine here =
    charged_or_stuck (next c (state v) (sequence v)) (subst (HasCharge 1) (sym (next_whole c v.base v.entries v.stack v.locals (listed v.code End)))
    (lift_charge 1 v.base v.entries (take (height v.entries) v.stack) v.locals (reduce c (frames v.entries 0) (at v.base v.locals) (onto (drop (height v.entries) v.stack) []) (listed v.code End))
    (subst (λ (x : List Item). HasCharge 1 (reduce c (frames v.entries 0) (at v.base v.locals) (onto (drop (height v.entries) v.stack) []) (listed x End))) (sym here)
    (charge_of c (at v.base v.locals) 1 i.ordinal i.instr (onto (drop (height v.entries) v.stack) []) (listed is End))))) fine.not_stuck

-- the whole run has ended
pub is_ended : (c : Contract) (v : View) → v.code ≡ [] → v.entries ≡ [] → next c (state v) (sequence v) ≡ Ended (onto v.stack [])
unfolding reduce
is_ended c v none_left none_open =
    subst (λ (es : List Open). next c (at v.base (outermost es v.locals)) (whole es v.stack v.locals (listed v.code End)) ≡ Ended (onto v.stack [])) (sym none_open)
    (subst (λ (x : List Item). next c (at v.base v.locals) (whole [] v.stack v.locals (listed x End)) ≡ Ended (onto v.stack [])) (sym none_left)
    (reduce_put c 0 (at v.base v.locals) v.stack [] End))

pub Frees_join : (k : Contract) (a b c : Config) → Frees k a b → Frees k b c → Frees k a c
Frees_join k a b c (none x) g = g
Frees_join k a b c (one_more x y z h f) g = one_more _ _ _ h (Frees_join k _ _ _ f g)

pub Settles_join : (c : Contract) (u v w : View) → Settles c u v → Settles c v w → Settles c u w
Settles_join c u v w f g = record { frees = Frees_join c _ _ _ f.frees g.frees; ordered = g.ordered }
