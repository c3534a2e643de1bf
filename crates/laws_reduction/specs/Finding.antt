-- What an instruction finds where it is not stuck.
use Rattle.std.proofs.Common.{◌≡◌, ℕ, zero, suc, ◌+◌, ◌<◌, ◌≤◌, Bool, true, false, List, [], ◌∷◌, ◌++◌, length, take, drop, refl, sym, ap, ◌∙◌, arith, None, Some, slice_get, IsTrue, append_assoc, true≢false}
use Rattle.std.specs.Prelude.{if◌then◌else◌, slice_set, slice_index_or}
use Rattle.std.proofs.lemmas.List.{take-append-drop}
use Rattle.wtypes.specs.declared.ValType.{ValType}
use Rattle.wtypes.specs.declared.ValType.TheVariants.{I32, I64}
use Rattle.wtypes.specs.declared.Value.{Value}
use Rattle.wtypes.specs.declared.PlainInstr.{PlainInstr}
use Rattle.wtypes.specs.declared.PlainInstr.TheVariants.{Unreachable, Nop, Call, Drop, Select, LocalGet, LocalSet, LocalTee, Const, Unary, Binary, Test, Compare, Convert}
use Rattle.spec_modules.specs.Operators.{same_type, type_of, bits_of, unary_type, binary_type, test_type, compare_type, convert_from}
use Rattle.laws_reduction.specs.Forms.{runs_on, operands, HasOne, HasTwo, HasChoice, CanSet, IsReadyFor}
use Rattle.laws_reduction.specs.Meaning.{Open, Stands, height, frames, at}
use Rattle.laws_reduction.specs.Plain.{onto}
use Rattle.laws_reduction.specs.Charging.{above, height-le}
use Rattle.spec_execution.specs.Configuration.{Contract, Seq, Val, Free, State, values}
use Rattle.spec_modules.specs.Syntax.{Plain}
use Rattle.spec_execution.specs.Reduction.{Next, Goes, Stuck, with_number, with_value, found, execute_plain, execute, reduce}
use Rattle.laws_reduction.specs.Context.{values_onto, reduce_put}

pub append-nil : {X : Type 0} (xs : List X) → xs ++ [] ≡ xs
append-nil [] = refl
append-nil (x ∷ xs) = ap (λ ys. x ∷ ys) (append-nil xs)

pub onto_is : (xs acc : List Value) → onto xs acc ≡ onto xs [] ++ acc
onto_is [] acc = refl
onto_is (x ∷ xs) acc = onto_is xs (x ∷ acc) ∙ sym (append_assoc (onto xs []) (x ∷ []) acc) ∙ ap (λ ys. ys ++ acc) (sym (onto_is xs (x ∷ [])))

pub onto_onto : (xs acc : List Value) → onto (onto xs acc) [] ≡ onto acc [] ++ xs
onto_onto [] acc = sym (append-nil (onto acc []))
onto_onto (x ∷ xs) acc = onto_onto xs (x ∷ acc) ∙ ap (λ ys. ys ++ xs) (onto_is acc (x ∷ [])) ∙ append_assoc (onto acc []) (x ∷ []) xs

-- the values on top, by what is read from the top
pub found_top : (h : ℕ) (stack xs ws : List Value) → onto (drop h stack) [] ≡ onto xs ws → stack ≡ (take h stack ++ onto ws []) ++ xs
found_top h stack xs ws e =
    sym (take-append-drop h stack)
    ∙ ap (λ ys. take h stack ++ ys) (sym (onto_onto (drop h stack) []) ∙ ap (λ ys. onto ys []) e ∙ onto_onto xs ws)
    ∙ sym (append_assoc (take h stack) (onto ws []) xs)

same_is : (t u : ValType) → same_type t u ≡ true → u ≡ t
same_is I32 I32 e = refl
same_is I64 I64 e = refl
same_is I32 I64 e = absurd (true≢false (sym e))
same_is I64 I32 e = absurd (true≢false (sym e))

-- values, topmost first, before what is reduced
pub reduce_values : (c : Contract) (n : ℕ) (s : State) (vs : List Value) (rest : Seq) → reduce c n s [] (values vs rest) ≡ reduce c n s vs rest
reduce_values c n s vs rest =
    ap (λ ws. reduce c n s [] (values ws rest)) (sym (onto_onto vs []))
    ∙ ap (reduce c n s []) (values_onto (onto vs []) [] rest)
    ∙ reduce_put c n s (onto vs []) [] rest
    ∙ ap (λ ws. reduce c n s ws rest) (onto_onto vs [])

pub record TookNumber (t : ValType) (vs : List Value) (go : ℕ → List Value → Next) : Type 0 where
  pub value : Value
  pub below : List Value
  pub is : vs ≡ value ∷ below
  pub typed : type_of value ≡ t
  pub more : go (bits_of value) below ≡ Stuck → ⊥

pub number_taken : (t : ValType) (vs : List Value) (go : ℕ → List Value → Next) → (with_number t vs go ≡ Stuck → ⊥) → TookNumber t vs go
number_taken t [] go f = absurd (f refl)
number_taken t (v ∷ vs) go f = by_test (same_type t (type_of v)) refl
  where
    by_test : (b : Bool) → same_type t (type_of v) ≡ b → TookNumber t (v ∷ vs) go
    by_test true e = record { value = v; below = vs; is = refl; typed = same_is t (type_of v) e; more = λ h. f (ap (λ b. if b then go (bits_of v) vs else Stuck) e ∙ h) }
    by_test false e = absurd (f (ap (λ b. if b then go (bits_of v) vs else Stuck) e))

pub record TookValue (vs : List Value) (go : Value → List Value → Next) : Type 0 where
  pub value : Value
  pub below : List Value
  pub is : vs ≡ value ∷ below
  pub more : go value below ≡ Stuck → ⊥

pub value_taken : (vs : List Value) (go : Value → List Value → Next) → (with_value vs go ≡ Stuck → ⊥) → TookValue vs go
value_taken [] go f = absurd (f refl)
value_taken (v ∷ vs) go f = record { value = v; below = vs; is = refl; more = f }

pub within : {X : Type 0} (xs : List X) (n : ℕ) → (slice_get xs n ≡ None → ⊥) → n < length xs
within [] n f = absurd (f refl)
within (y ∷ xs) zero f = omega arith
within (y ∷ xs) (suc n) f = omega (arith, within xs n f)

pub read_at : {X : Type 0} (xs : List X) (n : ℕ) (d : X) → n < length xs → slice_get xs n ≡ Some (slice_index_or xs n d)
read_at [] n d lt = absurd (omega arith)
read_at (x ∷ xs) zero d lt = refl
read_at (x ∷ xs) (suc n) d lt = read_at xs n d (omega arith)

module _ (c : Contract) (b : State) (es : List Open) (stack locals : List Value) (rest : Seq) (stands : Stands es (length stack)) where
  abbrev vs : List Value
  vs = onto (drop (height es) stack) []

  two_taken : (t : ValType) (go : ℕ → ℕ → List Value → Next) → (with_number t vs (λ y ws. with_number t ws (λ x us. go y x us)) ≡ Stuck → ⊥) → (height es + 2 ≤ length stack) × HasTwo t stack
  two_taken t go f =
      let top : TookNumber t vs (λ y ws. with_number t ws (λ x us. go y x us)) = number_taken t vs _ f in
      let under : TookNumber t top.below (λ x us. go (bits_of top.value) x us) = number_taken t top.below _ top.more in
      let both : vs ≡ top.value ∷ under.value ∷ under.below = top.is ∙ ap (λ ws. top.value ∷ ws) under.is in (
        above es stack 2 stands (omega (arith, ap length both)),
        record {
          kept = take (height es) stack ++ onto under.below [];
          a = under.value;
          b = top.value;
          before = found_top (height es) stack (under.value ∷ top.value ∷ []) under.below both;
          first = under.typed;
          second = top.typed;
        },
      )

  pub one_taken : (t : ValType) (go : ℕ → List Value → Next) → (with_number t vs go ≡ Stuck → ⊥) → (height es + 1 ≤ length stack) × HasOne t stack
  one_taken t go f =
      let top : TookNumber t vs go = number_taken t vs go f in (
        above es stack 1 stands (omega (arith, ap length top.is)),
        record { kept = take (height es) stack ++ onto top.below []; a = top.value; before = found_top (height es) stack (top.value ∷ []) top.below top.is; first = top.typed },
      )

  choice_taken : (go : ℕ → Value → Value → List Value → Next) → (with_number I32 vs (λ k ws. with_value ws (λ b us. with_value us (λ a ts. go k b a ts))) ≡ Stuck → ⊥) → (height es + 3 ≤ length stack) × HasChoice stack
  choice_taken go f =
      let top : TookNumber I32 vs (λ k ws. with_value ws (λ b us. with_value us (λ a ts. go k b a ts))) = number_taken I32 vs _ f in
      let middle : TookValue top.below (λ b us. with_value us (λ a ts. go (bits_of top.value) b a ts)) = value_taken top.below _ top.more in
      let under : TookValue middle.below (λ a ts. go (bits_of top.value) middle.value a ts) = value_taken middle.below _ middle.more in
      let all : vs ≡ top.value ∷ middle.value ∷ under.value ∷ under.below = top.is ∙ ap (λ ws. top.value ∷ ws) middle.is ∙ ap (λ ws. top.value ∷ middle.value ∷ ws) under.is in (
        above es stack 3 stands (omega (arith, ap length all)),
        record {
          kept = take (height es) stack ++ onto under.below [];
          a = under.value;
          b = middle.value;
          k = top.value;
          before = found_top (height es) stack (under.value ∷ middle.value ∷ top.value ∷ []) under.below all;
          number = top.typed;
        },
      )

  some_taken : (go : Value → List Value → Next) → (with_value vs go ≡ Stuck → ⊥) → height es + 1 ≤ length stack
  some_taken go f =
      let top : TookValue vs go = value_taken vs go f in
      above es stack 1 stands (omega (arith, ap length top.is))

  set_taken : (x : ℕ) (go : Value → List Value → Value → Next) → (with_value vs (λ v ws. found (slice_get locals x) (go v ws)) ≡ Stuck → ⊥) → (height es + 1 ≤ length stack) × CanSet x stack locals
  set_taken x go f =
      let top : TookValue vs (λ v ws. found (slice_get locals x) (go v ws)) = value_taken vs _ f in
      let le : height es + 1 ≤ length stack = above es stack 1 stands (omega (arith, ap length top.is)) in
      (le, record { some = omega arith; there = within locals x (λ e. top.more (ap (λ o. found o (go top.value top.below)) e)) })

  -- a local that is to be written after the value was copied
  tee_taken : (x : ℕ) → (with_value vs (λ v ws. Goes 1 (at b locals) (values ws (Val v (Val v (Free (Plain (LocalSet x)) rest))))) ≡ Stuck → ⊥) →
      ((s : State) (y : Seq) → with_value vs (λ v ws. Goes 1 (at b locals) (values ws (Val v (Val v (Free (Plain (LocalSet x)) rest))))) ≡ Goes 1 s y → reduce c (frames es 0) s [] y ≡ Stuck → ⊥) →
      (height es + 1 ≤ length stack) × CanSet x stack locals
  unfolding reduce execute execute_plain
  tee_taken x f after =
      let top : TookValue vs (λ v ws. Goes 1 (at b locals) (values ws (Val v (Val v (Free (Plain (LocalSet x)) rest))))) = value_taken vs _ f in
      let le : height es + 1 ≤ length stack = above es stack 1 stands (omega (arith, ap length top.is)) in (
        le,
        record {
          some = omega arith;
          there = within locals x (λ e. after (at b locals) _ (ap (λ us. with_value us (λ v ws. Goes 1 (at b locals) (values ws (Val v (Val v (Free (Plain (LocalSet x)) rest)))))) top.is)
              (reduce_values c (frames es 0) (at b locals) top.below (Val top.value (Val top.value (Free (Plain (LocalSet x)) rest)))
              ∙ ap (λ o. found o (λ old. Goes 0 (at b (slice_set locals x top.value)) (values (top.value ∷ top.below) rest))) e));
        },
      )

  pub ready_for : (op : PlainInstr) → IsTrue (runs_on op) → (execute_plain c (at b locals) 1 op vs rest ≡ Stuck → ⊥) →
      ((s : State) (y : Seq) → execute_plain c (at b locals) 1 op vs rest ≡ Goes 1 s y → reduce c (frames es 0) s [] y ≡ Stuck → ⊥) → (height es + operands op ≤ length stack) × IsReadyFor op stack locals
  unfolding execute_plain
  ready_for (Const v) r f after = (omega (arith, height-le es (length stack) stands), tt)
  ready_for (LocalGet x) r f after = (omega (arith, height-le es (length stack) stands), within locals x (λ e. f (ap (λ o. found o (λ v. Goes 1 (at b locals) (values vs (Val v rest)))) e)))
  ready_for Unreachable r f after = (omega (arith, height-le es (length stack) stands), tt)
  ready_for Nop r f after = (omega (arith, height-le es (length stack) stands), tt)
  ready_for Drop r f after =
      let le : height es + 1 ≤ length stack = some_taken _ f in
      (le, omega arith)
  ready_for Select r f after = choice_taken _ f
  ready_for (LocalSet x) r f after = set_taken x _ f
  ready_for (LocalTee x) r f after = tee_taken x f after
  ready_for (Unary o) r f after = one_taken (unary_type o) _ f
  ready_for (Test o) r f after = one_taken (test_type o) _ f
  ready_for (Compare o) r f after = two_taken (compare_type o) _ f
  ready_for (Convert o) r f after = one_taken (convert_from o) _ f
  ready_for (Binary o) r f after = two_taken (binary_type o) _ f
  ready_for (Call f') r f after = (omega (arith, height-le es (length stack) stands), tt)
  ready_for _ r f after = absurd (true≢false (sym r))
