-- Lists that rise, what a filter keeps, and lists put together.
use Rattle.std.proofs.Common.{◌≡◌, ◌↔◌, inl, inr, ℕ, zero, suc, ◌+◌, ◌<◌, Bool, true, false, cond, List, [], ◌∷◌, ◌++◌, length, get_or, refl, sym, ◌∙◌, ap, subst, arith, append-nil}
use Rattle.std.specs.List.{Contains, filter}
use Rattle.std.specs.List.Sorted.{IsStrictlyIncreasing}
use Rattle.std.proofs.lemmas.Bool.{cases_lt, cases_eq}
use Rattle.std.proofs.lemmas.List.{length_push, get_or_append_left, get_or_push, append_assoc}
use Rattle.std.proofs.lemmas.List.Elements.{Contains-append_left, Contains-append_cases, Contains-append_right, Contains-get_or, Contains-push, Contains-push_cases}
use Rattle.schedule.specs.Graph.{gathered, list_at}

pub among_these : (xs ys : List ℕ) (j : ℕ) → xs ≡ ys → Contains xs j → Contains ys j
among_these xs ys j is c = subst (λ zs. Contains zs j) is c

pub nothing : (j : ℕ) → Contains [] j → ⊥
nothing j c = absurd (let lt = c.1 in omega (arith, lt))

-- within a list the default is not read
pub default_within : (xs : List ℕ) (i d e : ℕ) → i < length xs → get_or xs i d ≡ get_or xs i e
default_within [] i d e lt = absurd (omega (arith, lt))
default_within (x ∷ xs) zero d e lt = refl
default_within (x ∷ xs) (suc i) d e lt = default_within xs i d e (omega (arith, lt))

pub rising_none : IsStrictlyIncreasing []
rising_none = λ k lt. absurd (omega (arith, lt))

pub rising_push : (xs : List ℕ) (n : ℕ) → IsStrictlyIncreasing xs → ((j : ℕ) → Contains xs j → j < n) → IsStrictlyIncreasing (xs ++ n ∷ [])
rising_push xs n rises below k lt =
    let size : length (xs ++ n ∷ []) ≡ length xs + 1 = length_push xs n in
    let here : get_or (xs ++ n ∷ []) k 0 ≡ get_or xs k 0 = get_or_append_left xs (n ∷ []) 0 k (omega (arith, lt, size)) in
    elim (cases_lt (k + 1) (length xs)) [
      | inl inside ↦
          let next : get_or (xs ++ n ∷ []) (k + 1) 0 ≡ get_or xs (k + 1) 0 = get_or_append_left xs (n ∷ []) 0 (k + 1) inside in
          let step = rises k inside in omega (arith, here, next, step)
      | inr past ↦
          let last : get_or (xs ++ n ∷ []) (k + 1) 0 ≡ n = get_or_push xs n 0 (k + 1) (omega (arith, past, lt, size)) in
          let step = below (get_or xs k 0) (Contains-get_or xs k 0 (omega (arith, lt, size))) in omega (arith, here, last, step)
    ]

-- ---- the numbers with the count 0

pub zeros_more : (counts xs : List ℕ) (n : ℕ) → get_or counts n 0 ≡ 0 → ((k : ℕ) → Contains xs k ↔ ((k < n) × (get_or counts k 0 ≡ 0))) → (k : ℕ) → Contains (xs ++ n ∷ []) k ↔ ((k < n + 1) × (get_or counts k 0 ≡ 0))
zeros_more counts xs n none so_far k = (
  λ c. elim (Contains-push_cases xs n k c) [
    | inl h ↦ let r = (so_far k).0 h in (let lt = r.0 in omega (arith, lt), r.1)
    | inr same ↦ (omega (arith, same), ap (λ i. get_or counts i 0) (sym same) ∙ none)
  ],
  λ h. elim (cases_eq k n) [
    | inl same ↦ subst (Contains (xs ++ n ∷ [])) (sym same) (Contains-push xs n)
    | inr other ↦ Contains-append_left xs (n ∷ []) k ((so_far k).1 (let lt = h.0 in omega (arith, lt, other), h.1))
  ],
)

pub zeros_same : (counts xs : List ℕ) (n : ℕ) → ¬ (get_or counts n 0 ≡ 0) → ((k : ℕ) → Contains xs k ↔ ((k < n) × (get_or counts k 0 ≡ 0))) → (k : ℕ) → Contains xs k ↔ ((k < n + 1) × (get_or counts k 0 ≡ 0))
zeros_same counts xs n some so_far k = (
  λ c. let r = (so_far k).0 c in (let lt = r.0 in omega (arith, lt), r.1),
  λ h. elim (cases_eq k n) [
    | inl same ↦ absurd (some (ap (λ i. get_or counts i 0) (sym same) ∙ h.1))
    | inr other ↦ (so_far k).1 (let lt = h.0 in omega (arith, lt, other), h.1)
  ],
)

-- ---- what a filter keeps

only : (x j : ℕ) → Contains (x ∷ []) j → x ≡ j
only x j (zero, lt, is) = is
only x j (suc k, lt, is) = absurd (omega (arith, lt))

pub kept_by : (p : ℕ → Bool) (xs : List ℕ) (j : ℕ) → Contains (filter p xs) j → Contains xs j × (p j ≡ true)
kept_by p [] j c = absurd (let lt = c.1 in omega (arith, lt))
kept_by p (x ∷ xs) j c = by (p x) refl (λ d. kept_by p xs j d) c
  where
    later : Contains xs j × (p j ≡ true) → Contains (x ∷ xs) j × (p j ≡ true)
    later r = (Contains-append_right (x ∷ []) xs j r.0, r.1)

    by : (b : Bool) → p x ≡ b → (Contains (filter p xs) j → Contains xs j × (p j ≡ true)) → Contains (cond b (x ∷ filter p xs) (filter p xs)) j → Contains (x ∷ xs) j × (p j ≡ true)
    by true is rest h = elim (Contains-append_cases (x ∷ []) (filter p xs) j h) [
      | inl first ↦ (Contains-append_left (x ∷ []) xs j first, let same : x ≡ j = only x j first in ap p (sym same) ∙ is)
      | inr d ↦ later (rest d)
    ]
    by false is rest h = later (rest h)

pub keeps : (p : ℕ → Bool) (xs : List ℕ) (j : ℕ) → Contains xs j → p j ≡ true → Contains (filter p xs) j
keeps p [] j c sure = absurd (let lt = c.1 in omega (arith, lt))
keeps p (x ∷ xs) j c sure = by (p x) refl (λ d. keeps p xs j d sure)
  where
    by : (b : Bool) → p x ≡ b → (Contains xs j → Contains (filter p xs) j) → Contains (cond b (x ∷ filter p xs) (filter p xs)) j
    by true is rest = elim (Contains-append_cases (x ∷ []) xs j c) [
      | inl first ↦ Contains-append_left (x ∷ []) (filter p xs) j first
      | inr d ↦ Contains-append_right (x ∷ []) (filter p xs) j (rest d)
    ]
    by false is rest = elim (Contains-append_cases (x ∷ []) xs j c) [
      | inl first ↦ absurd (let same : x ≡ j = only x j first in let contrary : true ≡ false = sym sure ∙ ap p (sym same) ∙ is in cc contrary)
      | inr d ↦ rest d
    ]

-- ---- lists one after the other

pub gathered_push : (lists : List (List ℕ)) (places : List ℕ) (place : ℕ) → gathered lists (places ++ place ∷ []) ≡ gathered lists places ++ list_at lists place
gathered_push lists [] place = append-nil (list_at lists place)
gathered_push lists (x ∷ places) place = ap (λ ys. list_at lists x ++ ys) (gathered_push lists places place) ∙ sym (append_assoc (list_at lists x) (gathered lists places) (list_at lists place))

pub gathered_there : (lists : List (List ℕ)) (places : List ℕ) (j : ℕ) → Contains (gathered lists places) j → (place : ℕ) × Contains places place × Contains (list_at lists place) j
gathered_there lists [] j c = absurd (nothing j c)
gathered_there lists (x ∷ places) j c = elim (Contains-append_cases (list_at lists x) (gathered lists places) j c) [
  | inl here ↦ (x, (0, omega arith, refl), here)
  | inr later ↦ let r = gathered_there lists places j later in (r.0, Contains-append_right (x ∷ []) places r.0 r.1, r.2)
]

pub there_gathered : (lists : List (List ℕ)) (places : List ℕ) (place j : ℕ) → Contains places place → Contains (list_at lists place) j → Contains (gathered lists places) j
there_gathered lists [] place j among c = absurd (nothing place among)
there_gathered lists (x ∷ places) place j among c = elim (Contains-append_cases (x ∷ []) places place among) [
  | inl first ↦ Contains-append_left (list_at lists x) (gathered lists places) j (subst (λ p. Contains (list_at lists p) j) (sym (only x place first)) c)
  | inr later ↦ Contains-append_right (list_at lists x) (gathered lists places) j (there_gathered lists places place j later c)
]
