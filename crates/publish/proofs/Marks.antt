-- Marks of the calls of an order, and the calls that are not marked.
use Rattle.std.proofs.Common.{◌≡◌, inl, inr, ℕ, ◌+◌, ◌<◌, Bool, true, false, List, [], ◌∷◌, ◌++◌, length, get_or, set, replicate, refl, sym, ◌∙◌, ap, subst, arith}
use Rattle.std.specs.Prelude.{Contains, slice_index}
use Rattle.std.specs.List.Sorted.{IsStrictlyIncreasing}
use Rattle.std.proofs.lemmas.Bool.Decides.{eqb_tells, leb_tells}
use Rattle.std.proofs.lemmas.List.{get_or_past, get_or-replicate, length-replicate, get_or-set_same, get_or-set_other, length_push, get_or_push, get_or_append_left}
use Rattle.std.proofs.lemmas.Option.{slice_get-get_or, get_or_from_slice_get}
use Rattle.std.proofs.lemmas.List.Elements.{Contains-append_left, Contains-push, Contains-push_cases}
use Rattle.publish.specs.Publication.{is_marked, AreMarked, AreUnmarked, AreLeft}

no_marks : (n k : ℕ) → is_marked (replicate n false) k ≡ false
no_marks n k =
    elim (leb_tells n k) [
      | inl y ↦ get_or_past (replicate n false) k false (let l = length-replicate n false in let le = y.1 in omega arith)
      | inr z ↦ get_or-replicate n k false false z.1
    ]

pub in_none : {A : Type 0} (x : A) → Contains [] x → ⊥
in_none x h = absurd (let below = h.1 in omega arith)

pub marks_none : (n : ℕ) → AreMarked (replicate n false) []
marks_none n = record { marked = λ k is. absurd (let not : is_marked (replicate n false) k ≡ false = no_marks n k in cc); each = λ k h. absurd (in_none k h) }

-- one call more
module _ (marks : List Bool) (order : List ℕ) (n : ℕ) (are : AreMarked marks order) (below : n < length marks) where
  marked_more : (k : ℕ) → is_marked (set marks n true) k ≡ true → Contains (order ++ n ∷ []) k
  marked_more k is =
      elim (eqb_tells n k) [
        | inl y ↦ subst (Contains (order ++ n ∷ [])) y.1 (Contains-push order n)
        | inr z ↦ Contains-append_left order (n ∷ []) k (are.marked k (sym (get_or-set_other marks n k true false (λ e. z.1 (sym e))) ∙ is))
      ]

  marked_still : (k : ℕ) → is_marked marks k ≡ true → is_marked (set marks n true) k ≡ true
  marked_still k was =
      elim (eqb_tells n k) [
        | inl y ↦ subst (λ x. is_marked (set marks n true) x ≡ true) y.1 (get_or-set_same marks n true false below)
        | inr z ↦ get_or-set_other marks n k true false (λ e. z.1 (sym e)) ∙ was
      ]

  each_more : (k : ℕ) → Contains (order ++ n ∷ []) k → is_marked (set marks n true) k ≡ true
  each_more k h =
      elim (Contains-push_cases order n k h) [
        | inl before ↦ marked_still k (are.each k before)
        | inr here ↦ subst (λ x. is_marked (set marks n true) x ≡ true) here (get_or-set_same marks n true false below)
      ]

  pub marks_more : AreMarked (set marks n true) (order ++ n ∷ [])
  marks_more = record { marked = marked_more; each = each_more }

pub unmarked_new : (marks : List Bool) (order : List ℕ) (n : ℕ) → AreMarked marks order → is_marked marks n ≡ false → Contains order n → ⊥
unmarked_new marks order n are is h = absurd (let t : is_marked marks n ≡ true = are.each n h in cc)

pub new_unmarked : (marks : List Bool) (order : List ℕ) (n : ℕ) → AreMarked marks order → ¬ (Contains order n) → is_marked marks n ≡ false
new_unmarked marks order n are new = of (is_marked marks n) refl where
  of : (b : Bool) → is_marked marks n ≡ b → is_marked marks n ≡ false
  of true e = absurd (new (are.marked n e))
  of false e = e

-- ---- the calls that are not marked

pub unmarked_none : (marks : List Bool) → AreUnmarked marks 0 []
unmarked_none marks = record { rising = λ k h. absurd (omega (arith, h)); unmarked = λ k. (λ h. absurd (in_none k h), λ h. absurd (let l = h.0 in omega arith)) }

pub unmarked_skip : (marks : List Bool) (n : ℕ) (left : List ℕ) → AreUnmarked marks n left → is_marked marks n ≡ true → AreUnmarked marks (n + 1) left
unmarked_skip marks n left u is = record {
  rising = u.rising;
  unmarked = λ k. (
    λ h. (let l = ((u.unmarked k).0 h).0 in omega arith, ((u.unmarked k).0 h).1),
    λ h.
        elim (eqb_tells k n) [
          | inl y ↦ absurd (let t : is_marked marks k ≡ true = ap (is_marked marks) y.1 ∙ is in let f : is_marked marks k ≡ false = h.1 in cc)
          | inr z ↦ (u.unmarked k).1 (let l = h.0 in let ne = z.1 in omega arith, h.1)
        ],
  );
}

get_or_any : (xs : List ℕ) (i : ℕ) → i < length xs → get_or xs i (get_or xs i 0) ≡ get_or xs i 0
get_or_any xs i h = get_or_from_slice_get xs i (get_or xs i 0) (get_or xs i 0) (slice_get-get_or xs i 0 h)

pub rising_more : (left : List ℕ) (n : ℕ) → IsStrictlyIncreasing left → ((k : ℕ) → Contains left k → k < n) → IsStrictlyIncreasing (left ++ n ∷ [])
rising_more left n rising below k h =
    let l = length_push left n in
    elim (leb_tells (length left) (k + 1)) [
      | inl y ↦ let last : k + 1 ≡ length left = (let le = y.1 in omega arith) in
          let here : slice_index (left ++ n ∷ []) (k + 1) ≡ n = get_or_push left n 0 (k + 1) (sym last) in
          let before : slice_index (left ++ n ∷ []) k ≡ slice_index left k = get_or_append_left left (n ∷ []) 0 k (omega arith) in
          let lt : slice_index left k < n = below (slice_index left k) (k, omega arith, get_or_any left k (omega arith)) in omega arith
      | inr z ↦ let within : k + 1 < length left = z.1 in
          let a : slice_index (left ++ n ∷ []) k ≡ slice_index left k = get_or_append_left left (n ∷ []) 0 k (omega arith) in
          let b : slice_index (left ++ n ∷ []) (k + 1) ≡ slice_index left (k + 1) = get_or_append_left left (n ∷ []) 0 (k + 1) within in
          let lt : slice_index left k < slice_index left (k + 1) = rising k within in omega arith
    ]

pub unmarked_push : (marks : List Bool) (n : ℕ) (left : List ℕ) → AreUnmarked marks n left → is_marked marks n ≡ false → AreUnmarked marks (n + 1) (left ++ n ∷ [])
unmarked_push marks n left u is = record {
  rising = rising_more left n u.rising (λ k h. ((u.unmarked k).0 h).0);
  unmarked = λ k. (
    λ h.
        elim (Contains-push_cases left n k h) [
          | inl before ↦ (let l = ((u.unmarked k).0 before).0 in omega arith, ((u.unmarked k).0 before).1)
          | inr here ↦ (omega arith, subst (λ x. is_marked marks x ≡ false) here is)
        ],
    λ h.
        elim (eqb_tells n k) [
          | inl y ↦ subst (Contains (left ++ n ∷ [])) y.1 (Contains-push left n)
          | inr z ↦ Contains-append_left left (n ∷ []) k ((u.unmarked k).1 (let l = h.0 in let ne = z.1 in omega arith, h.1))
        ],
  );
}

pub are_left : (marks : List Bool) (order left : List ℕ) (calls : ℕ) → length marks ≡ calls → AreMarked marks order → AreUnmarked marks (length marks) left → AreLeft order calls left
are_left marks order left calls size are u = record {
  rising = u.rising;
  others = λ k. (
    λ h. (let l = ((u.unmarked k).0 h).0 in omega arith, unmarked_new marks order k are ((u.unmarked k).0 h).1),
    λ h. (u.unmarked k).1 (let l = h.0 in omega arith, new_unmarked marks order k are h.1),
  );
}
