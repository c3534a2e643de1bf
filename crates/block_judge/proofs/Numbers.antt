-- The numbers of an order, marked one after another.
use Rattle.std.proofs.Common.{◌≡◌, inl, inr, ℕ, ◌+◌, ◌<◌, ◌≤◌, Bool, true, false, List, [], ◌∷◌, ◌++◌, length, take, get_or, set, replicate, sym, ◌∙◌, subst, arith}
use Rattle.std.specs.Prelude.{Contains}
use Rattle.std.proofs.lemmas.Bool.Decides.{eqb_tells, leb_tells}
use Rattle.std.proofs.lemmas.List.{get_or_past, get_or-replicate, length-replicate, get_or-set_same, get_or-set_other, take_more}
use Rattle.std.proofs.lemmas.List.Elements.{Contains-append_left, Contains-push, Contains-push_cases}
use Rattle.std.proofs.lemmas.Option.{slice_get_within, get_or_from_slice_get}
use Rattle.spec_block.specs.Worlds.{Call}
use Rattle.spec_block.specs.Verdicts.{IsBadNumber}
use Rattle.block_judge.specs.Marks.{is_marked, AreMarked}

-- ---- marks

no_marks : (n k : ℕ) → is_marked (replicate n false) k ≡ false
no_marks n k =
    elim (leb_tells n k) [
      | inl y ↦ get_or_past (replicate n false) k false (let l = length-replicate n false in let le = y.1 in omega arith)
      | inr z ↦ get_or-replicate n k false false z.1
    ]

in_none : (x : ℕ) → Contains [] x → ⊥
in_none x h = absurd (let below = h.1 in omega arith)

pub marks_none : (n : ℕ) → AreMarked [] (replicate n false)
marks_none n = record { marked = λ k is. absurd (let not : is_marked (replicate n false) k ≡ false = no_marks n k in cc); each = λ k h. absurd (in_none k h) }

module _ (marks : List Bool) (before : List ℕ) (n : ℕ) (are : AreMarked before marks) (below : n < length marks) where
  marked_more : (k : ℕ) → is_marked (set marks n true) k ≡ true → Contains (before ++ n ∷ []) k
  marked_more k is =
      elim (eqb_tells n k) [
        | inl y ↦ subst (Contains (before ++ n ∷ [])) y.1 (Contains-push before n)
        | inr z ↦ Contains-append_left before (n ∷ []) k (are.marked k (sym (get_or-set_other marks n k true false (λ e. z.1 (sym e))) ∙ is))
      ]

  marked_still : (k : ℕ) → is_marked marks k ≡ true → is_marked (set marks n true) k ≡ true
  marked_still k was =
      elim (eqb_tells n k) [
        | inl y ↦ subst (λ x. is_marked (set marks n true) x ≡ true) y.1 (get_or-set_same marks n true false below)
        | inr z ↦ get_or-set_other marks n k true false (λ e. z.1 (sym e)) ∙ was
      ]

  each_more : (k : ℕ) → Contains (before ++ n ∷ []) k → is_marked (set marks n true) k ≡ true
  each_more k h =
      elim (Contains-push_cases before n k h) [
        | inl was ↦ marked_still k (are.each k was)
        | inr here ↦ subst (λ x. is_marked (set marks n true) x ≡ true) here (get_or-set_same marks n true false below)
      ]

  marks_push : AreMarked (before ++ n ∷ []) (set marks n true)
  marks_push = record { marked = marked_more; each = each_more }

-- one position more is marked
pub marks_more : (marks : List Bool) (order : List ℕ) (i : ℕ) → i < length order → AreMarked (take i order) marks → get_or order i 0 < length marks → AreMarked (take (i + 1) order) (set marks (get_or order i 0) true)
marks_more marks order i at are below = subst (λ o. AreMarked o (set marks (get_or order i 0) true)) (sym (take_more order i 0 at)) (marks_push marks (take i order) (get_or order i 0) are below)

unmarked_new : (marks : List Bool) (order : List ℕ) (n : ℕ) → AreMarked order marks → is_marked marks n ≡ false → ¬ (Contains order n)
unmarked_new marks order n are is h = absurd (let t : is_marked marks n ≡ true = are.each n h in cc)

-- ---- the least bad number

module _ (calls : List Call) (order : List ℕ) where
  -- up to here no number is bad
  abbrev pub NoneBad : ℕ → Type 0
  NoneBad i = (m : ℕ) → m < i → ¬ (IsBadNumber calls order m)

  number_at : (i : ℕ) (bad : IsBadNumber calls order i) → bad.0 ≡ get_or order i 0
  number_at i bad = sym (get_or_from_slice_get order i bad.0 0 bad.1)

  not_here : (marks : List Bool) (i : ℕ) → AreMarked (take i order) marks → get_or order i 0 < length calls → is_marked marks (get_or order i 0) ≡ false → ¬ (IsBadNumber calls order i)
  not_here marks i are below is bad =
      let same = number_at i bad in
      elim bad.2 [
        | inl above ↦ absurd (omega (arith, above, same, below))
        | inr again ↦ unmarked_new marks (take i order) (get_or order i 0) are is (subst (Contains (take i order)) same again)
      ]

  pub none_more : (marks : List Bool) (i : ℕ) → NoneBad i → AreMarked (take i order) marks → get_or order i 0 < length calls → is_marked marks (get_or order i 0) ≡ false → NoneBad (i + 1)
  none_more marks i none are below is m lt =
      elim (eqb_tells m i) [
        | inl y ↦ subst (λ k. ¬ (IsBadNumber calls order k)) (sym y.1) (not_here marks i are below is)
        | inr z ↦ none m (let ne = z.1 in omega arith)
      ]

  -- past the end there is no number
  pub none_bad : (i : ℕ) → length order ≤ i → NoneBad i → (m : ℕ) → ¬ (IsBadNumber calls order m)
  none_bad i end none m bad = none m (let within = slice_get_within order m bad.0 bad.1 in omega (arith, within, end)) bad
