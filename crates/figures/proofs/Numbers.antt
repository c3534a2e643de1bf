-- The greatest of numbers, and what follows of waves and chains.
use Rattle.std.proofs.Common.{◌≡◌, ◌⊎◌, inl, inr, ℕ, zero, suc, ◌+◌, ◌<◌, ◌≤◌, List, [], ◌∷◌, ◌++◌, length, take, get_or, replicate, refl, sym, ◌∙◌, ap, subst, arith}
use Rattle.std.specs.List.{Contains}
use Rattle.std.proofs.lemmas.Bool.{cases_lt}
use Rattle.std.proofs.lemmas.List.{take_more, get_or_past}
use Rattle.std.proofs.lemmas.List.Elements.{Contains-append_left, Contains-get_or, Contains-push, Contains-push_cases}
use Rattle.std.proofs.lemmas.Option.{slice_get_within}
use Rattle.spec_ledger.specs.declared.Entry.{Entry}
use Rattle.spec_block.specs.Schedule.{IsPath, here, along, IsWave}
use Rattle.figures.specs.Chains.{path_weight, AreForward, IsChain, IsGreatest, IsHeaviest}
use Rattle.figures.specs.Figures.{IsCount}

-- within a list the default is not read
default_within : (xs : List ℕ) (i d e : ℕ) → i < length xs → get_or xs i d ≡ get_or xs i e
default_within [] i d e lt = absurd (omega (arith, lt))
default_within (x ∷ xs) zero d e lt = refl
default_within (x ∷ xs) (suc i) d e lt = default_within xs i d e (omega (arith, lt))

pub greatest_none : IsGreatest [] 0
greatest_none = record { above = λ n c. absurd (let lt = c.1 in omega (arith, lt)); reached = inl (refl, refl) }

pub greatest_more : (xs : List ℕ) (i d most new : ℕ) → i < length xs → IsGreatest (take i xs) most → ((most < get_or xs i d) × (new ≡ get_or xs i d)) ⊎ ((get_or xs i d ≤ most) × (new ≡ most)) → IsGreatest (take (i + 1) xs) new
greatest_more xs i d most new below so_far how =
    let x : ℕ = get_or xs i d in
    let whole : take i xs ++ x ∷ [] ≡ take (i + 1) xs = sym (take_more xs i d below) in
    subst (λ ys. IsGreatest ys new) whole (elim how [
      | inl up ↦ record {
        above = λ n c. elim (Contains-push_cases (take i xs) x n c) [
          | inl h ↦ let old = so_far.above n h in let a = up.0 in let b = up.1 in omega (arith, old, a, b)
          | inr same ↦ let b = up.1 in omega (arith, same, b)
        ];
        reached = inr (subst (Contains (take i xs ++ x ∷ [])) (sym up.1) (Contains-push (take i xs) x));
      }
      | inr down ↦ record {
        above = λ n c. elim (Contains-push_cases (take i xs) x n c) [
          | inl h ↦ let old = so_far.above n h in let b = down.1 in omega (arith, old, b)
          | inr same ↦ let a = down.0 in let b = down.1 in omega (arith, same, a, b)
        ];
        reached = inr (elim so_far.reached [
          | inl none ↦
              let zero_is = none.1 in let a = down.0 in let b = down.1 in
              let one : x ≡ new = omega (arith, zero_is, a, b) in
              subst (Contains (take i xs ++ x ∷ [])) one (Contains-push (take i xs) x)
          | inr there ↦ subst (Contains (take i xs ++ x ∷ [])) (sym down.1) (Contains-append_left (take i xs) (x ∷ []) most there)
        ]);
      }
    ])

abbrev pub ones : ℕ → List ℕ
ones n = replicate n 1

one_each : (n i : ℕ) → i < n → get_or (ones n) i 0 ≡ 1
one_each zero i lt = absurd (omega (arith, lt))
one_each (suc n) zero lt = refl
one_each (suc n) (suc i) lt = one_each n i (omega (arith, lt))

module _ (profiles : List (List Entry)) where
  -- where each position weighs 1, a path weighs as much as it has positions
  path_ones : (count m i j : ℕ) → length profiles ≡ count → (p : IsPath profiles m i j) → j < count → path_weight profiles (ones count) m i j p ≡ m + 1
  path_ones count _ _ _ size (here i) lt = one_each count i lt
  path_ones count _ _ _ size (along l i k j p e) lt =
      let within = slice_get_within profiles k e.holds_first.profile e.holds_first.there in
      let rest = path_ones count l i k size p (omega (arith, within, size)) in
      let last = one_each count j lt in
      omega (arith, rest, last)

  -- a path to a position has no more edges than positions before it
  short_path : AreForward profiles → (m i j : ℕ) → IsPath profiles m i j → m ≤ j
  short_path forward _ _ _ (here i) = omega arith
  short_path forward _ _ _ (along l i k j p e) = let rest = short_path forward l i k p in let lt = forward k j e in omega (arith, rest, lt)

  -- no path leads past the positions
  outside_path : (weights : List ℕ) (m i j : ℕ) → length weights ≡ length profiles → (p : IsPath profiles m i j) → length profiles ≤ j → path_weight profiles weights m i j p ≡ 0
  outside_path weights _ _ _ size (here i) past = get_or_past weights i 0 (omega (arith, size, past))
  outside_path weights _ _ _ size (along l i k j p e) past = absurd (let within = slice_get_within profiles j e.holds_second.profile e.holds_second.there in omega (arith, within, past))

  -- how many positions the longest path has
  pub count_within : (count j w : ℕ) → length profiles ≡ count → count < 65536 → AreForward profiles → j < count → IsHeaviest profiles (ones count) j w → (0 < w) × (w < 4294967296)
  count_within count j w size few forward lt heavy =
      let ones = path_ones count heavy.edges heavy.from j size heavy.path lt in
      let is = heavy.reached in
      let short = short_path forward heavy.edges heavy.from j heavy.path in
      (omega (arith, ones, is), omega (arith, ones, is, short, lt, few))

  pub wave_of_count : (count j v w : ℕ) → length profiles ≡ count → j < count → v + 1 ≡ w → IsHeaviest profiles (ones count) j w → IsWave profiles j v
  wave_of_count count j v w size lt one_less heavy =
      let ones = path_ones count heavy.edges heavy.from j size heavy.path lt in
      let is = heavy.reached in
      let edges : heavy.edges ≡ v = omega (arith, ones, is, one_less) in
      record {
        from = heavy.from;
        path = subst (λ n. IsPath profiles n heavy.from j) edges heavy.path;
        longest = λ n i p. let own = path_ones count n i j size p lt in let low = heavy.most n i p in omega (arith, own, low, one_less);
      }

  pub chain_of_greatest : (weights sums : List ℕ) (most : ℕ) → length weights ≡ length profiles → length sums ≡ length profiles → ((i : ℕ) → i < length profiles → IsHeaviest profiles weights i (get_or sums i 0)) → IsGreatest sums most
      → IsChain profiles weights most
  chain_of_greatest weights sums most each size heavy greatest =
      let all : (n i j : ℕ) (p : IsPath profiles n i j) → path_weight profiles weights n i j p ≤ most = λ n i j p.
      elim (cases_lt j (length profiles)) [
        | inl lt ↦
            let own = (heavy j lt).most n i p in
            let within : j < length sums = omega (arith, lt, size) in
            let high = greatest.above (get_or sums j 0) (Contains-get_or sums j 0 within) in
            omega (arith, own, high)
        | inr past ↦ let none = outside_path weights n i j each p past in omega (arith, none)
      ] in
      elim greatest.reached [
        | inl none ↦
            let empty : length sums ≡ 0 = ap length none.0 in
            let zero_is : get_or weights 0 0 ≡ 0 = get_or_past weights 0 0 (omega (arith, empty, size, each)) in
            record { edges = 0; from = 0; to = 0; path = here 0; reached = zero_is ∙ sym none.1; most = all }
        | inr there ↦
            let lt : there.0 < length profiles = let below = there.1 in omega (arith, below, size) in
            let h = heavy there.0 lt in
            record { edges = h.edges; from = h.from; to = there.0; path = h.path; reached = h.reached ∙ (default_within sums there.0 0 most there.1 ∙ there.2); most = all }
      ]

none_left : (xs ys : List ℕ) → length xs ≡ length ys → ys ≡ [] → xs ≡ []
none_left [] ys size none = refl
none_left (x ∷ xs) ys size none = absurd (let empty : length ys ≡ 0 = ap length none in omega (arith, size, empty))

pub count_of_greatest : (waves counts : List ℕ) (most : ℕ) → length waves ≡ length counts → ((i : ℕ) → i < length counts → get_or waves i 0 + 1 ≡ get_or counts i 0) → IsGreatest counts most → IsCount waves most
count_of_greatest waves counts most size less greatest = record {
  above = λ i lt.
      let within : i < length counts = omega (arith, lt, size) in
      let high = greatest.above (get_or counts i 0) (Contains-get_or counts i 0 within) in
      let one = less i within in omega (arith, high, one);
  reached = elim greatest.reached [
    | inl none ↦ inl (none_left waves counts size none.0, none.1)
    | inr there ↦ inr (there.0, (let lt = there.1 in omega (arith, lt, size)), less there.0 there.1 ∙ (default_within counts there.0 0 most there.1 ∙ there.2))
  ];
}

pub greatest_small : (xs : List ℕ) (most : ℕ) → ((i : ℕ) → i < length xs → get_or xs i 0 < 4294967296) → IsGreatest xs most → most < 4294967296
greatest_small xs most small greatest =
    elim greatest.reached [
      | inl none ↦ let is = none.1 in omega (arith, is)
      | inr there ↦ let low = small there.0 there.1 in let same = default_within xs there.0 0 most there.1 in let is = there.2 in omega (arith, low, same, is)
    ]
