-- Where a binary search ends among cells whose locks rise.
use Rattle.std.proofs.Common.{◌≡◌, ◌≢◌, ℕ, zero, suc, ◌+◌, ◌<◌, true, false, cond, Some, None, List, [], ◌∷◌, length, get_or, Result, Ok, Err, IfOk, IfErr, inl, inr, refl, sym, ◌∙◌, ap, subst, arith}
use Rattle.std.specs.Prelude.{T}
use Rattle.std.specs.declared.cmp.Ordering.{Ordering}
use Rattle.std.specs.declared.cmp.Ordering.TheVariants.{Less, Equal, Greater}
use Rattle.std.specs.Ordering.{eq_by_cmp, is_eq, is_lt, ordering_reverse, ordering_index}
use Rattle.std.specs.List.Sorted.{IsSearchInRange, IsBinarySearchResult, IsNonDecreasingBy}
use Rattle.std.specs.FinMap.{find, is_sorted}
use Rattle.std.specs.FinMap.Entries.{below_all}
use Rattle.std.proofs.lemmas.Bool.{cases_lt}
use Rattle.std.proofs.lemmas.List.Sorted.{searchable_from_sorted}
use Rattle.spec_ledger.specs.declared.Lock.{Lock}
use Rattle.spec_ledger.specs.Cells.{lock_cmp}
use Rattle.storage.specs.Slots.{IsFoundAt}
use Rattle.spec_ledger.proofs.Maps.{key_itself, lock_cmp_total, lock_cmp-IsAntisymmetric}
use Rattle.storage.proofs.Listed.{first, second, is_less, is_equal}

below_at : (k : Lock) (l : List (Lock × ℕ)) (i : ℕ) (d : Lock × ℕ) → T (below_all lock_cmp k l) → i < length l → lock_cmp k (get_or l i d).0 ≡ Less
below_at k [] i d h lt = absurd (omega (arith, lt))
below_at k (x ∷ l) zero d h lt = is_less (lock_cmp k x.0) (first _ _ h)
below_at k (x ∷ l) (suc i) d h lt = below_at k l i d (second _ _ h) (omega (arith, lt))

-- each lock is below those behind it
ordered : (l : List (Lock × ℕ)) → T (is_sorted lock_cmp l) → (i j : ℕ) (d : Lock × ℕ) → i < j → j < length l → lock_cmp (get_or l i d).0 (get_or l j d).0 ≡ Less
ordered [] h i j d lt fits = absurd (omega (arith, fits))
ordered (x ∷ l) h i zero d lt fits = absurd (omega (arith, lt))
ordered (x ∷ l) h zero (suc j) d lt fits = below_at x.0 l j d (first _ _ h) (omega (arith, fits))
ordered (x ∷ l) h (suc i) (suc j) d lt fits = ordered l (second _ _ h) i j d (omega (arith, lt)) (omega (arith, fits))

not_less : (a b : Lock) → lock_cmp a b ≡ Less → is_lt (lock_cmp b a) ≡ false
not_less a b h = ap is_lt (lock_cmp_total.antisymm b a ∙ ap ordering_reverse h)

not_tied : (a b : Lock) → lock_cmp a b ≡ Less → eq_by_cmp lock_cmp b a ≡ false
not_tied a b h = ap is_eq (lock_cmp_total.antisymm b a ∙ ap ordering_reverse h)

comparisons_rise : (l : List (Lock × ℕ)) → T (is_sorted lock_cmp l) → (k : Lock) → IsNonDecreasingBy (λ c. ordering_index (lock_cmp c.0 k)) l
comparisons_rise l h k = searchable_from_sorted lock_cmp_total (λ c. c.0) l k (λ i d low high. not_less (get_or l i d).0 (get_or l (i + 1) d).0 (ordered l h i (i + 1) d (omega arith) high))

find_at : (l : List (Lock × ℕ)) → T (is_sorted lock_cmp l) → (k : Lock) (i : ℕ) (d : Lock × ℕ) → i < length l → (get_or l i d).0 ≡ k → find lock_cmp k l ≡ Some (get_or l i d).1
find_at [] h k i d lt e = absurd (omega (arith, lt))
find_at (x ∷ l) h k zero d lt e = ap (λ b. cond b (Some x.1) (find lock_cmp k l)) (subst (λ q. eq_by_cmp lock_cmp k q ≡ true) (sym e) (key_itself lock_cmp_total lock_cmp-IsAntisymmetric k))
find_at (x ∷ l) h k (suc i) d lt e =
    ap (λ b. cond b (Some x.1) (find lock_cmp k l)) (not_tied x.0 k (subst (λ q. lock_cmp x.0 q ≡ Less) e (below_at x.0 l i d (first _ _ h) (omega (arith, lt)))))
    ∙ find_at l (second _ _ h) k i d (omega (arith, lt)) e

-- a lock that none is tied with is not found
find_none : (l : List (Lock × ℕ)) (k : Lock) → ((i : ℕ) (d : Lock × ℕ) → i < length l → lock_cmp (get_or l i d).0 k ≢ Equal) → find lock_cmp k l ≡ None
find_none [] k h = refl
find_none (x ∷ l) k h =
    elim (eq_by_cmp lock_cmp k x.0) as (λ b. eq_by_cmp lock_cmp k x.0 ≡ b → cond b (Some x.1) (find lock_cmp k l) ≡ None) [
      | true ↦ λ t. absurd (h 0 x (omega arith) (lock_cmp_total.antisymm x.0 k ∙ ap ordering_reverse (is_equal (lock_cmp k x.0) t)))
      | false ↦ λ _. find_none l k (λ i d lt. h (suc i) d (omega (arith, lt)))
    ] refl

less_or_greater : (r : Ordering) → r ≡ Less → r ≢ Equal
less_or_greater r e f = absurd (let no : Less ≡ Equal = sym e ∙ f in cc no)

greater_or_less : (r : Ordering) → r ≡ Greater → r ≢ Equal
greater_or_less r e f = absurd (let no : Greater ≡ Equal = sym e ∙ f in cc no)

module _ (l : List (Lock × ℕ)) (h : T (is_sorted lock_cmp l)) (k : Lock) where
  pub searched : (r : Result ℕ ℕ) → IsSearchInRange r (length l) → IsBinarySearchResult (λ c. lock_cmp c.0 k) l r → record { found : IfOk r (IsFoundAt l k); absent : IfErr r (λ _. find lock_cmp k l ≡ None) }
  searched (Ok at) in_range equal = record {
    found = record { in_range = in_range; found = λ d. find_at l h k at d in_range (lock_cmp-IsAntisymmetric (get_or l at d).0 k (equal d)) };
    absent = tt;
  }
  searched (Err at) in_range parted = let parts = parted (comparisons_rise l h k) in record {
    found = tt;
    absent = find_none l k (λ i d lt. elim (cases_lt i at) [
      | inl below ↦ less_or_greater (lock_cmp (get_or l i d).0 k) (parts.0 i d (omega arith) below)
      | inr above ↦ greater_or_less (lock_cmp (get_or l i d).0 k) (parts.1 i d above lt)
    ]);
  }
