-- Where each edge goes forward, some path to a position weighs most.
use Rattle.std.proofs.Common.{◌≡◌, ◌⊎◌, inl, inr, ℕ, zero, suc, ◌+◌, ◌<◌, ◌≤◌, List, slice_index, refl, subst, arith}
use Rattle.std.proofs.lemmas.Bool.{cases_lt}
use Rattle.spec_ledger.specs.declared.Entry.{Entry}
use Rattle.spec_block.specs.Schedule.{IsEdge, IsPath, here, along}
use Rattle.figures.specs.Chains.{path_weight, AreForward, IsHeaviest}
use Rattle.laws_blocks.proofs.Edges.{is_edge}

one_more : (P : ℕ → Type 0) (n : ℕ) → ((i : ℕ) → i < n → P i) → P n → (i : ℕ) → i < suc n → P i
one_more P n low last i lt = elim (cases_lt i n) [
  | inl less ↦ low i less
  | inr ge ↦ (let same : n ≡ i = omega (arith, ge, lt) in subst P same last)
]

module _ (profiles : List (List Entry)) (weights : List ℕ) where
  abbrev Heavy : ℕ → Type 0
  Heavy i = (w : ℕ) × IsHeaviest profiles weights i w

  -- no path to a position before this one weighs more
  abbrev IsBound : ℕ → ℕ → ℕ → Type 0
  IsBound j best i = (e : IsEdge profiles i j) (m from : ℕ) (p : IsPath profiles m from i) → path_weight profiles weights m from i p ≤ best

  record IsThrough (j best : ℕ) : Type 0 where
    before : ℕ
    edges : ℕ
    from : ℕ
    edge : IsEdge profiles before j
    path : IsPath profiles edges from before
    weighs : path_weight profiles weights edges from before path ≡ best

  -- the most that a path to one of the first n positions before this one weighs
  record IsBest (j n best : ℕ) : Type 0 where
    above : (i : ℕ) → i < n → IsBound j best i
    reached : (best ≡ 0) ⊎ IsThrough j best

  raised : (j n low high : ℕ) → low ≤ high → ((i : ℕ) → i < n → IsBound j low i) → (i : ℕ) → i < n → IsBound j high i
  raised j n low high le above i lt e m from p = let a = above i lt e m from p in omega (arith, a, le)

  best_of : (j n : ℕ) → ((i : ℕ) → i < n → Heavy i) → (best : ℕ) × IsBest j n best
  best_of j zero heavy = (0, record { above = λ i lt e m from p. absurd (omega (arith, lt)); reached = inl refl })
  best_of j (suc n) heavy =
      let so_far = best_of j n (λ i lt. heavy i (omega (arith, lt))) in
      let h = heavy n (omega arith) in
      elim (is_edge profiles n j) [
        | inr none ↦ (so_far.0, record { above = one_more (IsBound j so_far.0) n so_far.1.above (λ e m from p. absurd (none e)); reached = so_far.1.reached })
        | inl edge ↦ elim (cases_lt so_far.0 h.0) [
          | inl less ↦ (
            h.0,
            record {
              above = one_more (IsBound j h.0) n (raised j n so_far.0 h.0 (omega (arith, less)) so_far.1.above) (λ e m from p. h.1.most m from p);
              reached = inr (record { before = n; edges = h.1.edges; from = h.1.from; edge = edge; path = h.1.path; weighs = h.1.reached });
            },
          )
          | inr ge ↦ (
            so_far.0,
            record {
              above = one_more (IsBound j so_far.0) n so_far.1.above (λ e m from p. let a = h.1.most m from p in omega (arith, a, ge));
              reached = so_far.1.reached;
            },
          )
        ]
      ]

  module _ (forward : AreForward profiles) where
    most_of : (n i j : ℕ) (p : IsPath profiles n i j) (best : ℕ) → IsBest j j best → path_weight profiles weights n i j p ≤ best + slice_index weights j
    most_of _ _ _ (here i) best b = omega arith
    most_of _ _ _ (along n i k j p e) best b = let low = b.above k (forward k j e) e n i p in omega (arith, low)

    heavy_after : (j : ℕ) → ((i : ℕ) → i < j → Heavy i) → Heavy j
    heavy_after j heavy =
        let best = best_of j j heavy in
        let most : (n i : ℕ) (p : IsPath profiles n i j) → path_weight profiles weights n i j p ≤ best.0 + slice_index weights j = λ n i p. most_of n i j p best.0 best.1 in (
          best.0 + slice_index weights j,
          elim best.1.reached [
            | inl none ↦ record { edges = 0; from = j; path = here j; reached = omega (arith, none); most = most }
            | inr t ↦ record { edges = t.edges + 1; from = t.from; path = along t.edges t.from t.before j t.path t.edge; reached = (let weighs = t.weighs in omega (arith, weighs)); most = most }
          ],
        )

    all_below : (n i : ℕ) → i < n → Heavy i
    all_below zero i lt = absurd (omega (arith, lt))
    all_below (suc n) i lt = one_more Heavy n (all_below n) (heavy_after n (all_below n)) i lt

    -- some path to a position weighs most
    pub heaviest : (i : ℕ) → (w : ℕ) × IsHeaviest profiles weights i w
    heaviest i = all_below (suc i) i (omega arith)
