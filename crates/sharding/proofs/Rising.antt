-- Positions that rise.
use Rattle.std.proofs.Common.{◌≡◌, ℕ, suc, zero, ◌+◌, ◌<◌, Some, List, [], ◌∷◌, length, get_or, slice_get, sym, ap, subst, arith}
use Rattle.std.specs.List.{AllByRecursion}
use Rattle.std.specs.List.Sorted.{IsStrictlyIncreasing}

-- all are below what is above the last
pub all_below : (xs : List ℕ) (n z p : ℕ) → IsStrictlyIncreasing xs → n + 1 ≡ length xs → slice_get xs n ≡ Some z → z < p → AllByRecursion (λ x. x < p) xs
all_below [] n z p h e l below = tt
all_below (x ∷ []) zero z p h e l below = (let same : x ≡ z = cc in omega (arith, same, below), tt)
all_below (x ∷ []) (suc n) z p h e l below = absurd (omega (arith, e))
all_below (x ∷ y ∷ xs) zero z p h e l below = absurd (omega (arith, e))
all_below (x ∷ y ∷ xs) (suc n) z p h e l below =
    let shifted : IsStrictlyIncreasing (y ∷ xs) = λ k b.
    let next : suc k + 1 ≡ suc (k + 1) = omega arith in
    subst (λ j. get_or (y ∷ xs) k 0 < get_or (x ∷ y ∷ xs) j 0) next (h (suc k) (omega (arith, b))) in
    let rest = all_below (y ∷ xs) n z p shifted (omega (arith, e)) l below in
    let first : x < y = h 0 (omega arith) in
    (omega (arith, first, rest.0), rest)

-- and what is above all is above each
pub above_each : (xs : List ℕ) (n z p : ℕ) → slice_get xs n ≡ Some z → AllByRecursion (λ x. x < p) xs → z < p
above_each [] n z p l all = absurd (cc)
above_each (x ∷ xs) zero z p l all = let same : x ≡ z = cc in omega (arith, same, all.0)
above_each (x ∷ xs) (suc n) z p l all = above_each xs n z p l all.1
