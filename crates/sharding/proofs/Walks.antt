-- Two lists gone over side by side: a list of its own, and one made of another list's items step by step.
use Rattle.std.proofs.Common.{◌≡◌, true, false, cond, ℕ, ◌+◌, ◌<◌, ◌≤◌, inl, inr, List, [], ◌∷◌, length, drop, get_or, refl, sym, ◌∙◌, ap, subst, arith}
use Rattle.std.proofs.lemmas.Bool.Decides.{eqb_tells}
use Rattle.std.proofs.lemmas.List.{drop_more, drop_all}
use Rattle.std.proofs.lemmas.Bool.{false≢true}
use Rattle.std.specs.Prelude.{◌↔◌, IsTrue, nat_eq}
use Rattle.spec_ledger.specs.declared.Lock.{Lock}
use Rattle.spec_ledger.specs.declared.Op.{Op}
use Rattle.spec_ledger.specs.declared.TraceStep.{TraceStep}
use Rattle.spec_ledger.specs.declared.TraceStep.TheVariants.{Did, Opened, Kept, Dropped}
use Rattle.spec_ledger.specs.Modes.{ops_of}
use Rattle.sharding.specs.Steps.{asks_at, is_seen}
use Rattle.spec_ledger.specs.Book.{CommittedCall}
use Rattle.spec_ledger.specs.Shards.{part, with_trace, if_touched, before_others, entries_in}

module _ {X : Type 0} (own all : List X) (n : ℕ) where
  -- the lists are the same just where what is left of them is: what is left of the second begins with x
  pub same_on : (x : X) (rest : List X) → (own ≡ all) ↔ (drop n own ≡ x ∷ rest) → n < length own → get_or own n x ≡ x → (own ≡ all) ↔ (drop (n + 1) own ≡ rest)
  same_on x rest left below is =
      let split : drop n own ≡ x ∷ drop (n + 1) own = drop_more own n x below ∙ ap (λ y. y ∷ drop (n + 1) own) is in
      ((λ same. ap (drop 1) (sym split ∙ left.0 same)), (λ same. left.1 (split ∙ ap (λ t. x ∷ t) same)))

  pub differs : (x : X) (rest : List X) → (own ≡ all) ↔ (drop n own ≡ x ∷ rest) → n < length own → ¬ (get_or own n x ≡ x) → ¬ (own ≡ all)
  differs x rest left below other same = other (ap (λ t. get_or t 0 x) (sym (drop_more own n x below) ∙ left.0 same))

  pub too_short : (x : X) (rest : List X) → (own ≡ all) ↔ (drop n own ≡ x ∷ rest) → length own ≤ n → ¬ (own ≡ all)
  too_short x rest left past same = let counts = ap length (sym (drop_all n own past) ∙ left.0 same) in absurd (omega (arith, counts))

  pub same_whole : (own ≡ all) ↔ (drop n own ≡ []) → length own ≤ n → own ≡ all
  same_whole left past = left.1 (drop_all n own past)

  pub too_long : (own ≡ all) ↔ (drop n own ≡ []) → n < length own → ¬ (own ≡ all)
  too_long left below same =
      elim own as (λ t. n < length t → drop n t ≡ [] → ⊥) [
        | [] ↦ λ b e. absurd (omega (arith, b))
        | x ∷ t ↦ λ b e. let counts = ap length (sym (drop_more (x ∷ t) n x b) ∙ e) in absurd (omega (arith, counts))
      ] below (left.0 same)

  -- where all of the second was gone over, the lists are the same just where all of the first was
  pub ended : (rest : List X) → rest ≡ [] → (own ≡ all) ↔ (drop n own ≡ rest) → n ≤ length own → IsTrue (nat_eq n (length own)) ↔ (own ≡ all)
  ended rest none same within =
      let left : (own ≡ all) ↔ (drop n own ≡ []) = subst (λ t. (own ≡ all) ↔ (drop n own ≡ t)) none same in
      elim (eqb_tells n (length own)) [
        | inl at ↦ ((λ _. same_whole left (omega (arith, at.1))), (λ _. at.0))
        | inr away ↦ ((λ e. absurd (false≢true (sym away.0 ∙ e))), (λ is. absurd (too_long left (omega (arith, away.1, within)) is)))
      ]

  pub left_as : (rest left : List X) → rest ≡ left → (own ≡ all) ↔ (drop n own ≡ rest) → (own ≡ all) ↔ (drop n own ≡ left)
  left_as rest left same = subst (λ t. (own ≡ all) ↔ (drop n own ≡ t)) same

module _ (home : Lock → ℕ) (i : ℕ) where
  seen : (s : TraceStep) (t : List TraceStep) → part home i (s ∷ t) ≡ cond (is_seen home i s) (s ∷ part home i t) (part home i t)
  seen (Did op r) t = refl
  seen Opened t = refl
  seen Kept t = refl
  seen Dropped t = refl

  -- a shard's part of a trace, one step on
  pub part_here : (trace : List TraceStep) (j : ℕ) (s : TraceStep) → j < length trace → get_or trace j s ≡ s → is_seen home i s ≡ true → part home i (drop j trace) ≡ s ∷ part home i (drop (j + 1) trace)
  part_here trace j s below is here =
      ap (part home i) (drop_more trace j s below ∙ ap (λ y. y ∷ drop (j + 1) trace) is)
      ∙ seen s (drop (j + 1) trace) ∙ ap (λ b. cond b (s ∷ part home i (drop (j + 1) trace)) (part home i (drop (j + 1) trace))) here

  pub part_away : (trace : List TraceStep) (j : ℕ) (s : TraceStep) → j < length trace → get_or trace j s ≡ s → is_seen home i s ≡ false → part home i (drop j trace) ≡ part home i (drop (j + 1) trace)
  part_away trace j s below is away =
      ap (part home i) (drop_more trace j s below ∙ ap (λ y. y ∷ drop (j + 1) trace) is)
      ∙ seen s (drop (j + 1) trace) ∙ ap (λ b. cond b (s ∷ part home i (drop (j + 1) trace)) (part home i (drop (j + 1) trace))) away

  -- its operations, one step on
  asked_op : (s : TraceStep) (t : List TraceStep) → asks_at home i s ≡ true → ¬ ([] ≡ ops_of (part home i (s ∷ t)))
  asked_op (Did op r) t asks none =
      let some : [] ≡ op ∷ ops_of (part home i t) = none ∙ ap (λ b. ops_of (cond b (Did op r ∷ part home i t) (part home i t))) asks in
      absurd (cc some)
  asked_op Opened t asks none = absurd (false≢true asks)
  asked_op Kept t asks none = absurd (false≢true asks)
  asked_op Dropped t asks none = absurd (false≢true asks)

  no_op : (s : TraceStep) (t : List TraceStep) → asks_at home i s ≡ false → ops_of (part home i (s ∷ t)) ≡ ops_of (part home i t)
  no_op (Did op r) t asks = ap (λ b. ops_of (cond b (Did op r ∷ part home i t) (part home i t))) asks
  no_op Opened t asks = refl
  no_op Kept t asks = refl
  no_op Dropped t asks = refl

  pub ops_here : (trace : List TraceStep) (j : ℕ) (s : TraceStep) → j < length trace → get_or trace j s ≡ s → asks_at home i s ≡ true → ops_of (part home i trace) ≡ ops_of (part home i (drop j trace))
      → ¬ ([] ≡ ops_of (part home i trace))
  ops_here trace j s below is asks left none =
      asked_op s (drop (j + 1) trace) asks (none ∙ left ∙ ap (λ t. ops_of (part home i t)) (drop_more trace j s below ∙ ap (λ y. y ∷ drop (j + 1) trace) is))

  pub ops_away : (trace : List TraceStep) (j : ℕ) (s : TraceStep) → j < length trace → get_or trace j s ≡ s → asks_at home i s ≡ false → ops_of (part home i trace) ≡ ops_of (part home i (drop j trace))
      → ops_of (part home i trace) ≡ ops_of (part home i (drop (j + 1) trace))
  ops_away trace j s below is asks left =
      left ∙ ap (λ t. ops_of (part home i t)) (drop_more trace j s below ∙ ap (λ y. y ∷ drop (j + 1) trace) is) ∙ no_op s (drop (j + 1) trace) asks

  pub ops_none : (trace : List TraceStep) (j : ℕ) → length trace ≤ j → ops_of (part home i trace) ≡ ops_of (part home i (drop j trace)) → [] ≡ ops_of (part home i trace)
  ops_none trace j past left = sym (left ∙ ap (λ t. ops_of (part home i t)) (drop_all j trace past))

  -- the entries that touch a shard, one entry on
  some_touched : (ops : List Op) (e : CommittedCall) (es : List CommittedCall) → ¬ ([] ≡ ops) → if_touched ops e es ≡ e ∷ es
  some_touched [] e es some = absurd (some refl)
  some_touched (op ∷ ops) e es some = refl

  before_some : (e : CommittedCall) (t : List TraceStep) (es : List CommittedCall) → ¬ ([] ≡ ops_of t) → before_others e t es ≡ with_trace e t ∷ es
  before_some e t es some = some_touched (ops_of t) (with_trace e t) es some

  pub entries_here : (journal : List CommittedCall) (j : ℕ) (e : CommittedCall) → j < length journal → get_or journal j e ≡ e → ¬ ([] ≡ ops_of (part home i e.trace))
      → entries_in home i (drop j journal) ≡ with_trace e (part home i e.trace) ∷ entries_in home i (drop (j + 1) journal)
  entries_here journal j e below is some =
      ap (entries_in home i) (drop_more journal j e below ∙ ap (λ y. y ∷ drop (j + 1) journal) is)
      ∙ before_some e (part home i e.trace) (entries_in home i (drop (j + 1) journal)) some

  pub entries_away : (journal : List CommittedCall) (j : ℕ) (e : CommittedCall) → j < length journal → get_or journal j e ≡ e → [] ≡ ops_of (part home i e.trace)
      → entries_in home i (drop j journal) ≡ entries_in home i (drop (j + 1) journal)
  entries_away journal j e below is none =
      ap (entries_in home i) (drop_more journal j e below ∙ ap (λ y. y ∷ drop (j + 1) journal) is)
      ∙ ap (λ ops. if_touched ops (with_trace e (part home i e.trace)) (entries_in home i (drop (j + 1) journal))) (sym none)
