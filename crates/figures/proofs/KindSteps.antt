-- Kinds of outcomes, counted one after another.
use Rattle.std.proofs.Common.{◌≡◌, ◌⊎◌, inl, inr, ℕ, ◌+◌, ◌<◌, cond, List, [], ◌∷◌, ◌++◌, length, drop, get_or, ◌==◌, sym, ◌∙◌, ap, append_assoc}
use Rattle.std.proofs.lemmas.List.{drop_more}
use Rattle.std.proofs.lemmas.Bool.Decides.{eqb_tells}
use Rattle.spec_block.specs.Worlds.{Position}
use Rattle.figures.specs.Outcomes.{counts_among, number_of}
use Rattle.figures.specs.declared.outcomes.OutcomeKind.{OutcomeKind}
use Rattle.figures.specs.declared.outcomes.OutcomeCount.{OutcomeCount}

some_first : (n : ℕ) (x : OutcomeCount) (xs : List OutcomeCount) → ¬ (n ≡ 0) → cond (n == 0) xs (x ∷ xs) ≡ x ∷ xs
some_first n x xs some = elim (eqb_tells n 0) [ inl y ↦ absurd (some y.1) | inr z ↦ ap (λ b. cond b xs (x ∷ xs)) z.0 ]

none_first : (n : ℕ) (x : OutcomeCount) (xs : List OutcomeCount) → n ≡ 0 → cond (n == 0) xs (x ∷ xs) ≡ xs
none_first n x xs none = ap (λ k. cond (k == 0) xs (x ∷ xs)) none

pub kinds_more : (kinds : List OutcomeKind) (i : ℕ) (d : OutcomeKind) (positions : List Position) (old new whole : List OutcomeCount) (count : ℕ) → i < length kinds → count ≡ number_of (get_or kinds i d) positions
    → old ++ counts_among (drop i kinds) positions ≡ whole
    → ((¬ (count ≡ 0) × (new ≡ old ++ (record { kind = get_or kinds i d; positions = count }) ∷ [])) ⊎ ((count ≡ 0) × (new ≡ old)))
    → new ++ counts_among (drop (i + 1) kinds) positions ≡ whole
kinds_more kinds i d positions old new whole count below is so_far how =
    let kind : OutcomeKind = get_or kinds i d in
    let rest : List OutcomeCount = counts_among (drop (i + 1) kinds) positions in
    let n : ℕ = number_of kind positions in
    let one : OutcomeCount = record { kind = kind; positions = n } in
    let split : counts_among (drop i kinds) positions ≡ cond (n == 0) rest (one ∷ rest) = ap (λ (ks : List OutcomeKind). counts_among ks positions) (drop_more kinds i d below) in
    elim how [
      | inl put ↦
          let some : ¬ (n ≡ 0) = λ none. put.0 (is ∙ none) in
          let last : new ≡ old ++ one ∷ [] = put.1 ∙ ap (λ k. old ++ (record { kind = kind; positions = k }) ∷ []) is in
          ap (λ xs. xs ++ rest) last ∙ (append_assoc old (one ∷ []) rest ∙ (ap (λ xs. old ++ xs) (sym (split ∙ some_first n one rest some)) ∙ so_far))
      | inr kept ↦
          let none : n ≡ 0 = sym is ∙ kept.0 in
          ap (λ xs. xs ++ rest) kept.1 ∙ (ap (λ xs. old ++ xs) (sym (split ∙ none_first n one rest none)) ∙ so_far)
    ]
