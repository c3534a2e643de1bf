-- The wave of a position from those of its predecessors.
use Rattle.std.proofs.Common.{◌^◌, ◌≡◌, ◌⊎◌, inl, inr, ℕ, ◌+◌, ◌<◌, ◌≤◌, List, [], ◌∷◌, ◌++◌, length, get_or, refl, sym, ap, ◌∙◌, subst, arith}
use Rattle.std.proofs.lemmas.List.{length_push, get_or_append_left, get_or_push, get_or_past}
use Rattle.std.proofs.lemmas.Bool.{cases_eq, cases_lt}
use Rattle.spec_ledger.specs.declared.Entry.{Entry}
use Rattle.spec_block.specs.Schedule.{IsEdge, IsPath, here, along, IsWave}
use Rattle.schedule.specs.Waves.{IsTop}

last_edge : (profiles : List (List Entry)) (w j i n : ℕ) (wave : ℕ → ℕ) → ((k : ℕ) → IsEdge profiles k j → IsWave profiles k (wave k)) → ((k : ℕ) → IsEdge profiles k j → wave k < w)
    → IsPath profiles n i j → n ≤ w
last_edge profiles w _ _ _ wave waves above (here i) = omega arith
last_edge profiles w _ _ _ wave waves above (along n i m j p e) =
    let a = (waves m e).longest n i p in
    let b = above m e in
    omega (arith, a, b)

-- one more than the highest wave of the predecessors is the length of the longest path
wave_step : (profiles : List (List Entry)) (j w : ℕ) (wave : ℕ → ℕ) → ((k : ℕ) → IsEdge profiles k j → IsWave profiles k (wave k)) → ((k : ℕ) → IsEdge profiles k j → wave k < w)
    → ((w ≡ 0) ⊎ ((k : ℕ) × IsEdge profiles k j × (wave k + 1 ≡ w))) → IsWave profiles j w
wave_step profiles j w wave waves above reached =
    elim reached [
      | inl none ↦ record { from = j; path = subst (λ n. IsPath profiles n j j) (sym none) (here j); longest = λ n i p. last_edge profiles w j i n wave waves above p }
      | inr r ↦
          let before = waves r.0 r.1 in
          record { from = before.from; path = subst (λ n. IsPath profiles n before.from j) r.2 (along (wave r.0) before.from r.0 j before.path r.1); longest = λ n i p. last_edge profiles w j i n wave waves above p }
    ]

-- the waves of the first positions
pub record AreSoFar (profiles : List (List Entry)) (waves : List ℕ) (n : ℕ) : Type 0 where
  pub each : length waves ≡ n
  pub low : (i : ℕ) → get_or waves i 0 ≤ i
  pub exact : (i : ℕ) → i < n → IsWave profiles i (get_or waves i 0)

low_elsewhere : (i n x : ℕ) → ¬ (i ≡ n) → (i < n → x ≤ i) → (n < i → x ≤ i) → x ≤ i
low_elsewhere i n x other low high = elim (cases_lt i n) [ inl lt ↦ low lt | inr ge ↦ high (omega (arith, ge, other)) ]

pub waves_more : (profiles : List (List Entry)) (n : ℕ) (old new : List ℕ) (w : ℕ) → new ≡ old ++ w ∷ [] → ((k : ℕ) → IsEdge profiles k n → k < n)
    → IsTop old (λ k. IsEdge profiles k n) w → AreSoFar profiles old n → AreSoFar profiles new (n + 1)
waves_more profiles n old new w step forward top so_far =
    let len = so_far.each in
    let here_is : get_or new n 0 ≡ w = ap (λ xs. get_or xs n 0) step ∙ get_or_push old w 0 n len in
    let there : (k : ℕ) → k < n → get_or new k 0 ≡ get_or old k 0 = λ k h. ap (λ xs. get_or xs k 0) step ∙ get_or_append_left old (w ∷ []) 0 k (omega (arith, h, len)) in
    let size : length new ≡ n + 1 = ap length step ∙ length_push old w ∙ ap (λ k. k + 1) len in
    let wave : IsWave profiles n w = wave_step profiles n w (λ k. get_or old k 0) (λ k e. so_far.exact k (forward k e)) top.above top.least in
    let small : w ≤ n = elim top.least [
      | inl none ↦ omega (arith, none)
      | inr r ↦ let a = so_far.low r.0 in let b = forward r.0 r.1 in omega (arith, a, b, r.2)
    ] in
    record {
      each = size;
      low = λ i. elim (cases_eq i n) [
        | inl same ↦ let e : get_or new i 0 ≡ w = ap (λ k. get_or new k 0) same ∙ here_is in omega (arith, e, small, same)
        | inr other ↦ low_elsewhere i n (get_or new i 0) other (λ lt. let e = there i lt in let a = so_far.low i in omega (arith, e, a)) (λ gt. let e : get_or new i 0 ≡ 0 = get_or_past new i 0 (omega (arith, gt, size)) in omega (arith, e))
      ];
      exact = λ i h. elim (cases_eq i n) [
        | inl same ↦ subst (λ k. IsWave profiles k (get_or new k 0)) (sym same) (subst (IsWave profiles n) (sym here_is) wave)
        | inr other ↦ let below : i < n = omega (arith, h, other) in subst (IsWave profiles i) (sym (there i below)) (so_far.exact i below)
      ];
    }

pub none_so_far : (profiles : List (List Entry)) (waves : List ℕ) → waves ≡ [] → AreSoFar profiles waves 0
none_so_far profiles waves none = subst (λ ws. AreSoFar profiles ws 0) (sym none) (record { each = refl; low = λ i. omega arith; exact = λ i lt. absurd (omega (arith, lt)) })
