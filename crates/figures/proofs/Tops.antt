-- The greatest weights of paths, one position after another.
use Rattle.std.proofs.Common.{◌≡◌, inl, inr, ℕ, ◌+◌, ◌*◌, ◌<◌, ◌≤◌, Option, Some, None, List, [], ◌∷◌, ◌++◌, length, get_or, slice_get, refl, sym, ◌∙◌, ap, subst, arith}
use Rattle.std.specs.Option.{option_map}
use Rattle.std.proofs.lemmas.Bool.{cases_eq, cases_lt}
use Rattle.std.proofs.lemmas.List.{length-map, length_push, get_or_append_left, get_or_push}
use Rattle.std.proofs.lemmas.Option.{slice_get_within, slice_get_read, slice_get-map}
use Rattle.spec_ledger.specs.declared.Mode.{Mode}
use Rattle.spec_ledger.specs.declared.Entry.{Entry}
use Rattle.lock_profile.specs.Turns.{IsProfile}
use Rattle.spec_block.specs.Worlds.{Position, profiles_in}
use Rattle.spec_block.specs.Schedule.{hold_in, Holds, IsEdge, IsPath, here, along}
use Rattle.lock_profile.specs.declared.lock_turn.LockTurn.{LockTurn}
use Rattle.lock_profile.specs.LockTurns.{after, turn_of}
use Rattle.figures.specs.Turns.{AreRaised, IsAt, IsAfter, IsBest, IsPast}
use Rattle.figures.specs.Chains.{path_weight, AreForward, IsHeaviest}
use Rattle.figures.proofs.Profiles.{some_is, at_is_holder, IsHolder}

-- the greatest sum of the first positions at each turn
pub record AreTops (profiles : List (List Entry)) (sums : List ℕ) (n : ℕ) (top : LockTurn → Option ℕ) : Type 0 where
  pub there : (q : LockTurn) (k : ℕ) → k < n → IsHolder profiles q k → (w : ℕ) × (top q ≡ Some w) × (get_or sums k 0 ≤ w)
  pub reached : (q : LockTurn) (w : ℕ) → top q ≡ Some w → (k : ℕ) × (k < n) × IsHolder profiles q k × (get_or sums k 0 ≡ w)

-- the sums of the first positions, from which no edge goes back
pub record AreSums (profiles : List (List Entry)) (weights sums : List ℕ) (n : ℕ) : Type 0 where
  pub each : length sums ≡ n
  pub low : (k : ℕ) → k < n → get_or sums k 0 ≤ (k + 1) * 18446744073709551616
  pub heavy : AreForward profiles → (k : ℕ) → k < n → IsHeaviest profiles weights k (get_or sums k 0)
  pub clear : (i j : ℕ) → i < n → IsEdge profiles i j → i < j

-- two modes with turns are the same
abbrev Same : Mode × ℕ → Mode × ℕ → Type 0
Same h k = h ≡ k

pub no_tops : (profiles : List (List Entry)) (sums : List ℕ) (top : LockTurn → Option ℕ) → ((q : LockTurn) → top q ≡ None) → AreTops profiles sums 0 top
no_tops profiles sums top none = record {
  there = λ q k lt h. absurd (omega (arith, lt));
  reached = λ q w is. absurd (let no : None ≡ Some w = sym (none q) ∙ is in cc no);
}

pub no_sums : (profiles : List (List Entry)) (weights sums : List ℕ) → sums ≡ [] → AreSums profiles weights sums 0
no_sums profiles weights sums none = record {
  each = ap length none;
  low = λ k lt. absurd (omega (arith, lt));
  heavy = λ f k lt. absurd (omega (arith, lt));
  clear = λ i j lt e. absurd (omega (arith, lt));
}

module _ (profiles : List (List Entry)) (weights : List ℕ) (n : ℕ) (es : List Entry) (there_is : slice_get profiles n ≡ Some es) (profile : IsProfile es) where
  holder_at : (q : LockTurn) → IsHolder profiles q n → IsAt es q
  holder_at q h = (at_is_holder profiles n es there_is profile q).1 h

  at_holder : (q : LockTurn) → IsAt es q → IsHolder profiles q n
  at_holder q a = (at_is_holder profiles n es there_is profile q).0 a

  -- a path to this position weighs no more than the best before and the position itself
  last_weight : (b j m i : ℕ) → ((k : ℕ) → IsEdge profiles k j → (l from : ℕ) (p : IsPath profiles l from k) → path_weight profiles weights l from k p ≤ b)
      → (p : IsPath profiles m i j) → path_weight profiles weights m i j p ≤ b + get_or weights j 0
  last_weight b _ _ _ above (here i) = omega arith
  last_weight b _ _ _ above (along l i k j p e) = let a = above k e l i p in omega (arith, a)

  module _ (sums : List ℕ) (top : LockTurn → Option ℕ) (tops : AreTops profiles sums n top) where
    -- an edge back is seen
    forward_here : ¬ IsPast top es → (j : ℕ) → IsEdge profiles n j → n < j
    forward_here not_past j e =
        let q : LockTurn = record { lock = e.lock; turn = e.turn } in
        let own : IsHolder profiles q n = record { mode = e.first; holds = e.holds_first } in
        elim (cases_lt n j) [
          | inl lt ↦ lt
          | inr ge ↦ elim (cases_eq j n) [
            | inl same ↦
                let other : Holds profiles n e.lock e.second (e.turn + 1) = subst (λ i. Holds profiles i e.lock e.second (e.turn + 1)) same e.holds_second in
                let one : e.holds_first.profile ≡ other.profile = some_is _ _ (sym e.holds_first.there ∙ other.there) in
                let twice : Same (e.first, e.turn) (e.second, e.turn + 1) = some_is (e.first, e.turn) (e.second, e.turn + 1) (sym e.holds_first.held ∙ (ap (λ ps. hold_in e.lock ps) one ∙ other.held)) in
                let no : e.turn ≡ e.turn + 1 = ap (λ (h : Mode × ℕ). h.1) twice in
                absurd (omega (arith, no))
            | inr differ ↦
                let lt : j < n = omega (arith, ge, differ) in
                let up = tops.there (after q) j lt (record { mode = e.second; holds = e.holds_second }) in
                let at = holder_at q own in
                absurd (not_past (at.0, at.1, (up.0, ap (λ p. top (after p)) at.2 ∙ up.1)))
          ]
        ]

    -- what is seen is an edge back
    pub back : IsPast top es → AreForward profiles → ⊥
    back (e, c, (w, is)) forward =
        let k = tops.reached (after (turn_of e)) w is in
        let own = at_holder (turn_of e) (e, c, refl) in
        let edge : IsEdge profiles n k.0 = record { lock = e.lock; first = own.mode; second = k.2.mode; turn = e.turn; holds_first = own.holds; holds_second = k.2.holds } in
        let lt = forward n k.0 edge in
        let low = k.1 in
        absurd (omega (arith, lt, low))

    module _ (are : AreSums profiles weights sums n) (best : ℕ) (is_best : IsBest top es best) where
      -- it stays small
      pub low_best : best ≤ n * 18446744073709551616
      low_best = elim is_best.reached [
        | inl none ↦ omega (arith, none)
        | inr r ↦
            let k = tops.reached r.0 best r.2 in
            let lt = k.1 in let is = k.3 in let low = are.low k.0 k.1 in omega (arith, lt, is, low)
      ]

      edge_of : (q : LockTurn) (k : ℕ) → IsHolder profiles q k → IsAfter es q → IsEdge profiles k n
      edge_of q k h a =
          let second = at_holder (after q) a in
          record { lock = q.lock; first = h.mode; second = second.mode; turn = q.turn; holds_first = h.holds; holds_second = second.holds }

      heaviest : AreForward profiles → IsHeaviest profiles weights n (best + get_or weights n 0)
      heaviest forward =
          let most : (m i : ℕ) (p : IsPath profiles m i n) → path_weight profiles weights m i n p ≤ best + get_or weights n 0 = λ m i p. last_weight best n m i (λ k e l from p.
          let q : LockTurn = record { lock = e.lock; turn = e.turn } in
          let lt : k < n = forward k n e in
          let up = tops.there q k lt (record { mode = e.first; holds = e.holds_first }) in
          let a : IsAfter es q = holder_at (after q) (record { mode = e.second; holds = e.holds_second }) in
          let in_best = is_best.above q up.0 a up.1 in
          let own = (are.heavy forward k lt).most l from p in
          let high = up.2 in
          omega (arith, in_best, own, high)) p in
          elim is_best.reached [
            | inl none ↦ record { edges = 0; from = n; path = here n; reached = omega (arith, none); most = most }
            | inr r ↦
                let k = tops.reached r.0 best r.2 in
                let before = are.heavy forward k.0 k.1 in
                let is = before.reached in
                let same = k.3 in
                record { edges = before.edges + 1; from = before.from; path = along before.edges before.from k.0 n before.path (edge_of r.0 k.0 k.2 r.1); reached = omega (arith, is, same); most = most }
          ]

      module _ (weight : ℕ) (new : List ℕ) (step : new ≡ sums ++ (best + weight) ∷ []) where
        here_is : get_or new n 0 ≡ best + weight
        here_is = ap (λ xs. get_or xs n 0) step ∙ get_or_push sums (best + weight) 0 n are.each

        same_there : (k : ℕ) → k < n → get_or new k 0 ≡ get_or sums k 0
        same_there k h = let len = are.each in ap (λ xs. get_or xs k 0) step ∙ get_or_append_left sums ((best + weight) ∷ []) 0 k (omega (arith, h, len))

        pub sums_more : weight ≡ get_or weights n 0 → weight < 18446744073709551616 → ¬ IsPast top es → AreSums profiles weights new (n + 1)
        sums_more is small not_past = record {
          each = ap length step ∙ length_push sums (best + weight) ∙ ap (λ k. k + 1) are.each;
          low = λ k lt. elim (cases_eq k n) [
            | inl same ↦ let e : get_or new k 0 ≡ best + weight = ap (λ i. get_or new i 0) same ∙ here_is in let b = low_best in omega (arith, same, e, b, small)
            | inr other ↦ let below : k < n = omega (arith, lt, other) in let e = same_there k below in let b = are.low k below in omega (arith, e, b)
          ];
          heavy = λ forward k lt. elim (cases_eq k n) [
            | inl same ↦
                let whole : get_or new n 0 ≡ best + get_or weights n 0 = here_is ∙ ap (λ w. best + w) is in
                subst (λ i. IsHeaviest profiles weights i (get_or new i 0)) (sym same) (subst (IsHeaviest profiles weights n) (sym whole) (heaviest forward))
            | inr other ↦ let below : k < n = omega (arith, lt, other) in subst (IsHeaviest profiles weights k) (sym (same_there k below)) (are.heavy forward k below)
          ];
          clear = λ i j lt e. elim (cases_eq i n) [
            | inl same ↦ subst (λ k. k < j) (sym same) (forward_here not_past j (subst (λ k. IsEdge profiles k j) same e))
            | inr other ↦ are.clear i j (omega (arith, lt, other)) e
          ];
        }

        pub tops_more : (next : LockTurn → Option ℕ) → AreRaised es (best + weight) top next → AreTops profiles new (n + 1) next
        tops_more next raised = record {
          there = λ q k lt h. elim (cases_eq k n) [
            | inl same ↦
                let e : get_or new k 0 ≡ best + weight = ap (λ i. get_or new i 0) same ∙ here_is in
                elim (raised q) [
                  | inl r ↦ let up = r.1.2.sum_within in (r.1.0, r.1.1, omega (arith, e, up))
                  | inr r ↦ absurd (r.0 (holder_at q (subst (IsHolder profiles q) same h)))
                ]
            | inr other ↦
                let below : k < n = omega (arith, lt, other) in
                let e = same_there k below in
                let old = tops.there q k below h in
                let high = old.2 in
                elim (raised q) [
                  | inl r ↦ let up = r.1.2.old_within old.0 old.1 in (r.1.0, r.1.1, omega (arith, e, up, high))
                  | inr r ↦ (old.0, r.1 ∙ old.1, omega (arith, e, high))
                ]
          ];
          reached = λ q w is.
              let kept : top q ≡ Some w → (k : ℕ) × (k < n + 1) × IsHolder profiles q k × (get_or new k 0 ≡ w) = λ was.
              let k = tops.reached q w was in let lt = k.1 in (k.0, omega (arith, lt), k.2, same_there k.0 k.1 ∙ k.3) in
              elim (raised q) [
                | inl r ↦
                    let one : r.1.0 ≡ w = some_is r.1.0 w (sym r.1.1 ∙ is) in
                    elim r.1.2.reached [
                      | inl sum_is ↦ (n, omega arith, at_holder q r.0, here_is ∙ (sym sum_is ∙ one))
                      | inr was ↦ kept (was ∙ ap Some one)
                    ]
                | inr r ↦ kept (sym r.1 ∙ is)
              ];
        }

-- where the sums of all positions are known, each edge goes forward
pub all_forward : (profiles : List (List Entry)) (weights sums : List ℕ) (n : ℕ) → length profiles ≤ n → AreSums profiles weights sums n → AreForward profiles
all_forward profiles weights sums n all are i j e = let lt = slice_get_within profiles i e.holds_first.profile e.holds_first.there in are.clear i j (omega (arith, lt, all)) e

pub position_there : (positions : List Position) (n : ℕ) (item : Position) (es : List Entry) → n < length positions → item ≡ get_or positions n item → es ≡ item.profile → slice_get (profiles_in positions) n ≡ Some es
position_there positions n item es below is same =
    slice_get-map (λ (p : Position). p.profile) positions n ∙ (ap (option_map (λ (p : Position). p.profile)) (slice_get_read positions (length positions) n item refl below is) ∙ ap Some (sym same))

pub lists_long : (positions : List Position) → length (profiles_in positions) ≡ length positions
lists_long positions = length-map positions (λ (p : Position). p.profile)
