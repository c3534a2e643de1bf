-- What one instruction of the code does to the parts is a charged reduction.
use Rattle.std.proofs.Common.{◌≡◌, ℕ, ◌+◌, ◌≤◌, List, [], ◌∷◌, ◌++◌, length, take, drop, refl, sym, ap, ◌∙◌, subst, arith, length-append, append_assoc, Some, slice_get}
use Rattle.std.specs.Prelude.{slice_set}
use Rattle.std.proofs.lemmas.List.{take-append-le, drop-append-le, length-drop}
use Rattle.wtypes.specs.declared.Value.{Value}
use Rattle.wtypes.specs.declared.TrapCode.{TrapCode}
use Rattle.wtypes.specs.declared.PlainInstr.{PlainInstr}
use Rattle.spec_modules.specs.Syntax.{Plain}
use Rattle.laws_reduction.specs.Forms.{operands}
use Rattle.laws_reduction.specs.Meaning.{Item, Open, listed, put, height, around, frames, outermost, at, whole, Stands, View, config}
use Rattle.laws_reduction.specs.Plain.{onto, Ran, Fell}
use Rattle.laws_reduction.specs.Context.{values_onto, reduce_put, reduce_around, lift, lift_goes, lift_stuck, lift_traps}
use Rattle.spec_execution.specs.Configuration.{Contract, Seq, Val, Free, End, State, Config, Running, Trap, values}
use Rattle.spec_execution.specs.Reduction.{Goes, Traps, Stuck, reduce, execute, execute_plain, found}
use Rattle.spec_execution.specs.Turns.{Frees, none, one_more}
use Rattle.wtypes.specs.declared.PlainInstr.TheVariants.{LocalSet, LocalTee}
use Rattle.spec_execution.specs.Run.{Reduces, goes, traps, next, IsStuck}

pub put-append : (xs ys : List Value) (rest : Seq) → put (xs ++ ys) rest ≡ put xs (put ys rest)
put-append [] ys rest = refl
put-append (x ∷ xs) ys rest = ap (Val x) (put-append xs ys rest)

pub onto-append : (xs ys acc : List Value) → onto (xs ++ ys) acc ≡ onto ys (onto xs acc)
onto-append [] ys acc = refl
onto-append (x ∷ xs) ys acc = onto-append xs ys (x ∷ acc)

pub height-le : (es : List Open) (n : ℕ) → Stands es n → height es ≤ n
height-le [] n h = omega arith
height-le (e ∷ es) n h = h.0

pub Stands-le : (es : List Open) (m n : ℕ) → m ≤ n → Stands es m → Stands es n
Stands-le [] m n le h = tt
Stands-le (e ∷ es) m n le h = (omega (arith, h.0), h.1)

-- a stack that is shorter by no more than what is above the height
pub Stands_at : (es : List Open) (n m : ℕ) → height es ≤ m → Stands es n → Stands es m
Stands_at [] n m le h = tt
Stands_at (e ∷ es) n m le h = (le, h.1)

-- what is next in the whole, by what is next in the innermost
pub next_whole : (c : Contract) (b : State) (es : List Open) (stack locals : List Value) (x : Seq) →
    next c (at b (outermost es locals)) (whole es stack locals x)
    ≡ lift b es (take (height es) stack) locals (reduce c (frames es 0) (at b locals) (onto (drop (height es) stack) []) x)
next_whole c b es stack locals x =
    reduce_around c 0 b es (take (height es) stack) locals (put (drop (height es) stack) x)
    ∙ ap (lift b es (take (height es) stack) locals) (reduce_put c (frames es 0) (at b locals) (drop (height es) stack) [] x)

-- what is not stuck as a whole is not stuck in the innermost
pub fine_at : (c : Contract) (b : State) (es : List Open) (stack locals : List Value) (x : Seq) → (IsStuck (next c (at b (outermost es locals)) (whole es stack locals x)) → ⊥) →
    reduce c (frames es 0) (at b locals) (onto (drop (height es) stack) []) x ≡ Stuck → ⊥
fine_at c b es stack locals x fine e =
    fine (subst IsStuck (sym (next_whole c b es stack locals x
    ∙ ap (lift b es (take (height es) stack) locals) e
    ∙ lift_stuck b es (take (height es) stack) locals)) tt)

-- what a reduction in the innermost leads to, in the whole
pub next_after : (c : Contract) (b b' : State) (es : List Open) (stack locals locals' : List Value) (y : Seq) →
    next c (at b' (outermost es locals')) (around es (take (height es) stack) locals' y) ≡ lift b' es (take (height es) stack) locals' (reduce c (frames es 0) (at b' locals') [] y)
next_after c b b' es stack locals locals' y = reduce_around c 0 b' es (take (height es) stack) locals' y

-- where the whole is not stuck after a reduction, the innermost is not
pub fine_after_at : (c : Contract) (b b' : State) (es : List Open) (stack locals locals' : List Value) (x y : Seq) →
    ((s : State) (seq : Seq) → Reduces c (Running (at b (outermost es locals)) (whole es stack locals x)) 1 (Running s seq) → IsStuck (next c s seq) → ⊥) →
    reduce c (frames es 0) (at b locals) (onto (drop (height es) stack) []) x ≡ Goes 1 (at b' locals') y →
    reduce c (frames es 0) (at b' locals') [] y ≡ Stuck → ⊥
fine_after_at c b b' es stack locals locals' x y fine e stuck =
    fine (at b' (outermost es locals')) (around es (take (height es) stack) locals' y)
    (goes _ _ _ _ _ (next_whole c b es stack locals x ∙ ap (lift b es (take (height es) stack) locals) e ∙ lift_goes b es (take (height es) stack) locals 1 (at b' locals') y))
    (subst IsStuck (sym (next_after c b b' es stack locals locals' y ∙ ap (lift b' es (take (height es) stack) locals') stuck ∙ lift_stuck b' es (take (height es) stack) locals')) tt)

-- a reduction in the innermost is one of the whole
pub local : (c : Contract) (b b' : State) (es : List Open) (stack stack' locals locals' : List Value) (charge : ℕ) (x y : Seq) →
    take (height es) stack' ≡ take (height es) stack →
    reduce c (frames es 0) (at b locals) (onto (drop (height es) stack) []) x ≡ Goes charge (at b' locals') (put (drop (height es) stack') y) →
    Reduces c (Running (at b (outermost es locals)) (whole es stack locals x)) charge (Running (at b' (outermost es locals')) (whole es stack' locals' y))
local c b b' es stack stack' locals locals' charge x y below h =
    goes _ _ _ _ _ (next_whole c b es stack locals x
    ∙ ap (lift b es (take (height es) stack) locals) h
    ∙ lift_goes b es (take (height es) stack) locals charge (at b' locals') (put (drop (height es) stack') y)
    ∙ ap (λ z. Goes charge (at b' (outermost es locals')) (around es z locals' (put (drop (height es) stack') y))) (sym below))

pub local_trap : (c : Contract) (b : State) (es : List Open) (stack locals : List Value) (charge : ℕ) (x : Seq) (t : TrapCode) →
    reduce c (frames es 0) (at b locals) (onto (drop (height es) stack) []) x ≡ Traps charge t →
    Reduces c (Running (at b (outermost es locals)) (whole es stack locals x)) charge (Trap (at b (outermost es locals)) t)
local_trap c b es stack locals charge x t h =
    traps _ _ _ _ (next_whole c b es stack locals x ∙ ap (lift b es (take (height es) stack) locals) h ∙ lift_traps b es (take (height es) stack) locals charge t)

-- a reduction with something round it
pub around_goes : (c : Contract) (b b' : State) (es : List Open) (below locals locals' : List Value) (charge : ℕ) (x y : Seq) →
    reduce c (frames es 0) (at b locals) [] x ≡ Goes charge (at b' locals') y →
    Reduces c (Running (at b (outermost es locals)) (around es below locals x)) charge (Running (at b' (outermost es locals')) (around es below locals' y))
around_goes c b b' es below locals locals' charge x y h =
    goes _ _ _ _ _ (reduce_around c 0 b es below locals x ∙ ap (lift b es below locals) h ∙ lift_goes b es below locals charge (at b' locals') y)

-- the values above the innermost height, after a push
pub take_push : (es : List Open) (stack more : List Value) → Stands es (length stack) → take (height es) (stack ++ more) ≡ take (height es) stack
take_push es stack more h = take-append-le (height es) stack more (height-le es _ h)

pub drop_push : (es : List Open) (stack more : List Value) → Stands es (length stack) → drop (height es) (stack ++ more) ≡ drop (height es) stack ++ more
drop_push es stack more h = drop-append-le (height es) stack more (height-le es _ h)

pub Stands_push : (es : List Open) (stack more : List Value) → Stands es (length stack) → Stands es (length (stack ++ more))
Stands_push es stack more h = Stands-le es (length stack) _ (omega (arith, length-append stack more)) h

-- values on top of others, and then the rest
values_put : (xs more : List Value) (rest : Seq) → values (onto xs []) (put more rest) ≡ put (xs ++ more) rest
values_put xs more rest = values_onto xs [] (put more rest) ∙ sym (put-append xs more rest)

abbrev pub mk : State → List Open → List Value → List Value → List Item → View
mk b es stack locals is = record { base = b; entries = es; stack = stack; locals = locals; code = is }

-- what stands below and above the height, where some values are on top
pub onto_top : (es : List Open) (kept taken : List Value) → Stands es (length kept) → onto (drop (height es) (kept ++ taken)) [] ≡ onto taken (onto (drop (height es) kept) [])
onto_top es kept taken h = ap (λ vs. onto vs []) (drop_push es kept taken h) ∙ onto-append (drop (height es) kept) taken []

pub length-onto : (xs acc : List Value) → length (onto xs acc) ≡ length xs + length acc
length-onto [] acc = omega arith
length-onto (x ∷ xs) acc = length-onto xs (x ∷ acc) ∙ omega arith

-- the values above the height are so many
pub above : (es : List Open) (stack : List Value) (n : ℕ) → Stands es (length stack) → n ≤ length (onto (drop (height es) stack) []) → height es + n ≤ length stack
above es stack n h le = omega (arith, height-le es (length stack) h, length-onto (drop (height es) stack) [], length-drop (height es) stack)

-- an instruction that takes the topmost values and gives others
module _ (c : Contract) (b : State) (es : List Open) (stack locals : List Value) (n : ℕ) (op : PlainInstr) (is : List Item) (there : height es + operands op ≤ length stack) (stands : Stands es (length stack)) where
  kept_stands : (kept taken : List Value) → stack ≡ kept ++ taken → length taken ≡ operands op → Stands es (length kept)
  kept_stands kept taken before count =
      Stands_at es (length stack) (length kept) (omega (arith, there, count, ap length before, length-append kept taken)) stands

  pub charged_ran : (stack' locals' : List Value) → Ran op stack locals stack' locals' →
      Reduces c (config (mk b es stack locals (record { ordinal = n; instr = Plain op } ∷ is))) 1 (config (mk b es stack' locals' is)) × Stands es (length stack')
  unfolding reduce execute
  charged_ran stack' locals' r =
      let h = kept_stands r.kept r.taken r.before r.count in
      let over : Reduces c (config (mk b es (r.kept ++ r.taken) locals (record { ordinal = n; instr = Plain op } ∷ is))) 1 (config (mk b es (r.kept ++ r.given) locals' is)) =
      local c b b es (r.kept ++ r.taken) (r.kept ++ r.given) locals locals' 1 _ _ (take_push es r.kept r.given h ∙ sym (take_push es r.kept r.taken h))
      (ap (λ vs. execute_plain c (at b locals) 1 op vs (listed is End)) (onto_top es r.kept r.taken h)
      ∙ r.step c b (onto (drop (height es) r.kept) []) (listed is End)
      ∙ ap (Goes 1 (at b locals')) (values_put (drop (height es) r.kept) r.given (listed is End) ∙ ap (λ vs. put vs (listed is End)) (sym (drop_push es r.kept r.given h)))) in (
        subst (λ (x : List Value). Reduces c (config (mk b es x locals (record { ordinal = n; instr = Plain op } ∷ is))) 1 (config (mk b es stack' locals' is))) (sym r.before)
            (subst (λ (x : List Value). Reduces c (config (mk b es (r.kept ++ r.taken) locals (record { ordinal = n; instr = Plain op } ∷ is))) 1 (config (mk b es x locals' is))) (sym r.after) over),
        subst (λ (x : List Value). Stands es (length x)) (sym r.after) (Stands_push es r.kept r.given h),
      )

  pub charged_fell : (t : TrapCode) (locals' : List Value) → Fell op stack locals t locals' →
      Reduces c (config (mk b es stack locals (record { ordinal = n; instr = Plain op } ∷ is))) 1 (Trap (at b (outermost es locals)) t)
  unfolding reduce execute
  charged_fell t locals' r =
      let h = kept_stands r.kept r.taken r.before r.count in
      subst (λ (x : List Value). Reduces c (config (mk b es x locals (record { ordinal = n; instr = Plain op } ∷ is))) 1 (Trap (at b (outermost es locals)) t)) (sym r.before)
      (local_trap c b es (r.kept ++ r.taken) locals 1 _ t
      (ap (λ vs. execute_plain c (at b locals) 1 op vs (listed is End)) (onto_top es r.kept r.taken h) ∙ r.step c b (onto (drop (height es) r.kept) []) (listed is End)))

-- a local that is written while its value stays: the write is a reduction of its own
module _ (c : Contract) (b : State) (es : List Open) (kept : List Value) (v old : Value) (locals : List Value) (n x : ℕ) (is : List Item) (h : Stands es (length kept)) (there : slice_get locals x ≡ Some old) where
  abbrev on : List Value
  on = kept ++ v ∷ []

  abbrev before : Config
  before = config (mk b es on locals (record { ordinal = n; instr = Plain (LocalTee x) } ∷ is))

  abbrev pub between : Config
  between = Running (at b (outermost es locals)) (whole es (on ++ v ∷ []) locals (Free (Plain (LocalSet x)) (listed is End)))

  below_same : take (height es) (on ++ v ∷ []) ≡ take (height es) on
  below_same = take_push es on (v ∷ []) (Stands_push es kept (v ∷ []) h)

  tee_copies : Reduces c before 1 between
  unfolding reduce execute execute_plain
  tee_copies = local c b b es on (on ++ v ∷ []) locals locals 1 _ _ below_same
      (ap (λ vs. execute_plain c (at b locals) 1 (LocalTee x) vs (listed is End)) (onto_top es kept (v ∷ []) h)
      ∙ ap (Goes 1 (at b locals)) (values_put (drop (height es) kept) (v ∷ v ∷ []) (Free (Plain (LocalSet x)) (listed is End))
      ∙ ap (λ vs. put vs (Free (Plain (LocalSet x)) (listed is End))) (sym (drop_push es kept (v ∷ v ∷ []) h) ∙ ap (drop (height es)) (sym (append_assoc kept (v ∷ []) (v ∷ []))))))

  tee_writes : Reduces c between 0 (config (mk b es on (slice_set locals x v) is))
  unfolding reduce execute execute_plain
  tee_writes = local c b b es (on ++ v ∷ []) on locals (slice_set locals x v) 0 _ _ (sym below_same)
      (ap (λ vs. execute_plain c (at b locals) 0 (LocalSet x) vs (listed is End)) (onto_top es on (v ∷ []) (Stands_push es kept (v ∷ []) h))
      ∙ ap (λ o. found o (λ old. Goes 0 (at b (slice_set locals x v)) (values (onto (drop (height es) on) []) (listed is End)))) there
      ∙ ap (Goes 0 (at b (slice_set locals x v))) (values_onto (drop (height es) on) [] (listed is End)))

  pub charged_teed : Reduces c before 1 between × Frees c between (config (mk b es on (slice_set locals x v) is))
  charged_teed = (tee_copies, one_more _ _ _ tee_writes (none _))
