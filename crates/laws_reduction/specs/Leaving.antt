-- Leaving a block, a loop or a call at the end of its code.
use Rattle.std.proofs.Common.{◌≡◌, ℕ, ◌+◌, ◌≤◌, List, [], ◌∷◌, ◌++◌, length, take, drop, sym, ap, ◌∙◌, subst, arith}
use Rattle.std.proofs.lemmas.List.{take-append-le, drop-append-le, take-append-drop, length-take}
use Rattle.std.proofs.Math.Seq.{drop-length, take-length}
use Rattle.wtypes.specs.declared.Value.{Value}
use Rattle.spec_modules.specs.Syntax.{nothing}
use Rattle.laws_reduction.specs.Meaning.{Item, Scope, Block, Loop, Frame, Open, listed, put, item, outer, behind, continuation, height, around, frames, outermost, at, whole, Stands, View, config, IsOrdered, Settles, EachBegins}
use Rattle.laws_reduction.specs.Plain.{onto}
use Rattle.laws_reduction.specs.Context.{values_onto, reduce_put}
use Rattle.laws_reduction.specs.Charging.{mk, around_goes, put-append, height-le, Stands-le}
use Rattle.spec_execution.specs.Configuration.{Contract, Seq, End, State, Running}
use Rattle.spec_execution.specs.Configuration as c
use Rattle.spec_execution.specs.Reduction.{Goes, reduce, in_label, in_frame}
use Rattle.spec_execution.specs.Turns.{Frees, none, one_more}

-- what is opened above all values
pub whole_open : (es : List Open) (e : Open) (stack locals : List Value) (x : Seq) → e.height ≡ length stack →
    whole (e ∷ es) stack locals x ≡ whole es stack (outer e.scope locals) (item e.scope e.ordinal e.arity e.from locals x)
whole_open es e stack locals x h =
    ap (λ n. around es (take (height es) (take n stack)) (outer e.scope locals) (put (drop (height es) (take n stack)) (item e.scope e.ordinal e.arity e.from locals (put (drop n stack) x)))) h
    ∙ ap (λ vs. around es (take (height es) vs) (outer e.scope locals) (put (drop (height es) vs) (item e.scope e.ordinal e.arity e.from locals (put (drop (length stack) stack) x)))) (take-length stack)
    ∙ ap (λ vs. around es (take (height es) stack) (outer e.scope locals) (put (drop (height es) stack) (item e.scope e.ordinal e.arity e.from locals (put vs x)))) (drop-length stack)

-- a stack that is cut at two heights
pub take_take : (m n : ℕ) (xs : List Value) → m ≤ n → n ≤ length xs → take m (take n xs) ≡ take m xs
take_take m n xs le h =
    let len : m ≤ length (take n xs) = omega (arith, length-take n xs) in
    sym (take-append-le m (take n xs) (drop n xs) len) ∙ ap (take m) (take-append-drop n xs)

pub drop_take : (m n : ℕ) (xs : List Value) → m ≤ n → n ≤ length xs → drop m (take n xs) ++ drop n xs ≡ drop m xs
drop_take m n xs le h =
    let len : m ≤ length (take n xs) = omega (arith, length-take n xs) in
    sym (drop-append-le m (take n xs) (drop n xs) len) ∙ ap (drop m) (take-append-drop n xs)

-- the free reductions at the end of a label or a frame
leaving : (k : Contract) (b : State) (es : List Open) (s : Scope) (o a : ℕ) (is : List Item) (below xs ys locals : List Value) →
    Frees k (Running (at b (outermost es (outer s locals))) (around es below (outer s locals) (put xs (item s o a is locals (put ys End)))))
    (Running (at b (outermost es (outer s locals))) (around es below (outer s locals) (put (xs ++ ys) (listed (behind s is) End))))
unfolding reduce
leaving k b es Block o a is below xs ys locals =
    one_more _ _ _ (around_goes k b b es below locals locals 0 _ _
    (reduce_put k (frames es 0) (at b locals) xs [] _
    ∙ ap (in_label (at b locals) a o nothing (onto xs []) (listed (behind Block is) End)) (reduce_put k (frames es 0) (at b locals) ys [] End)
    ∙ ap (Goes 0 (at b locals)) (values_onto xs [] _ ∙ ap (put xs) (values_onto ys [] _) ∙ sym (put-append xs ys _))))
    (none _)
leaving k b es Loop o a is below xs ys locals =
    one_more _ _ _ (around_goes k b b es below locals locals 0 _ _
    (reduce_put k (frames es 0) (at b locals) xs [] _
    ∙ ap (in_label (at b locals) a o (continuation Loop is) (onto xs []) (listed (behind Loop is) End)) (reduce_put k (frames es 0) (at b locals) ys [] End)
    ∙ ap (Goes 0 (at b locals)) (values_onto xs [] _ ∙ ap (put xs) (values_onto ys [] _) ∙ sym (put-append xs ys _))))
    (none _)
leaving k b es (Frame f saved) o a is below xs ys locals =
    one_more _ _ _ (around_goes k b b es below saved saved 0 _ (put xs (c.Frame f a locals (put ys End) after))
    (reduce_put k n (at b saved) xs [] _
    ∙ ap (λ step. in_frame (at b saved) f a locals (onto xs []) after (in_label (at b locals) a 0 nothing [] End step)) (reduce_put k (n + 1) (at b locals) ys [] End)
    ∙ ap (Goes 0 (at b saved)) (values_onto xs [] _ ∙ ap (λ s. put xs (c.Frame f a locals s after)) (values_onto ys [] End))))
    (one_more _ _ _ (around_goes k b b es below saved saved 0 _ _
    (reduce_put k n (at b saved) xs [] _
    ∙ ap (in_frame (at b saved) f a locals (onto xs []) after) (reduce_put k (n + 1) (at b locals) ys [] End)
    ∙ ap (Goes 0 (at b saved)) (values_onto xs [] _ ∙ ap (put xs) (values_onto ys [] _) ∙ sym (put-append xs ys _))))
    (none _))
  where
    n : ℕ
    n = frames es 0

    after : Seq
    after = listed (behind (Frame f saved) is) End

pub settles : (k : Contract) (b : State) (es : List Open) (e : Open) (stack locals : List Value) → Stands (e ∷ es) (length stack) → EachBegins (e ∷ es) →
    Settles k (mk b (e ∷ es) stack locals []) (mk b es stack (outer e.scope locals) (behind e.scope e.from))
settles k b es e stack locals h r =
    let le : height es ≤ e.height = height-le es _ h.1 in
    record {
      frees = subst (λ (x : Seq). Frees k (config (mk b (e ∷ es) stack locals [])) (Running (at b (outermost es (outer e.scope locals))) x))
          (ap (λ z. around es z (outer e.scope locals) (put (drop (height es) (take e.height stack) ++ drop e.height stack) (listed (behind e.scope e.from) End))) (take_take (height es) e.height stack le h.0)
          ∙ ap (λ vs. around es (take (height es) stack) (outer e.scope locals) (put vs (listed (behind e.scope e.from) End))) (drop_take (height es) e.height stack le h.0))
          (leaving k b es e.scope e.ordinal e.arity e.from (take (height es) (take e.height stack)) (drop (height es) (take e.height stack)) (drop e.height stack) locals);
      ordered = record { stands = Stands-le es e.height (length stack) h.0 h.1; each = r.1 };
    }

-- the same, where the views are given by their fields
pub settles_view : (k : Contract) (v w : View) (e : Open) (s : Scope) → IsOrdered v → v.code ≡ [] → v.entries ≡ e ∷ w.entries → e.scope ≡ s → w.base ≡ v.base → w.stack ≡ v.stack →
    w.locals ≡ outer s v.locals → w.code ≡ behind s e.from → Settles k v w
settles_view k v w e s o at_end opens es eb est el ec =
    subst (λ (x : State). Settles k v (record w { base = x })) (sym eb)
    (subst (λ (x : List Value). Settles k v (record w { base = v.base; stack = x })) (sym est)
    (subst (λ (x : List Item). Settles k v (mk v.base w.entries v.stack w.locals x)) (sym (ec ∙ ap (λ s. behind s e.from) (sym es)))
    (subst (λ (x : List Value). Settles k v (mk v.base w.entries v.stack x (behind e.scope e.from))) (sym (el ∙ ap (λ s. outer s v.locals) (sym es)))
    (subst (λ (x : List Open). Settles k (record v { entries = x }) (mk v.base w.entries v.stack (outer e.scope v.locals) (behind e.scope e.from))) (sym opens)
    (subst (λ (x : List Item). Settles k (record v { entries = e ∷ w.entries; code = x }) (mk v.base w.entries v.stack (outer e.scope v.locals) (behind e.scope e.from))) (sym at_end)
    (settles k v.base w.entries e v.stack v.locals (subst (λ (x : List Open). Stands x (length v.stack)) opens o.stands) (subst EachBegins opens o.each)))))))
