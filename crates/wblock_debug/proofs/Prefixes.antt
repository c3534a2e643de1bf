-- The numbers at the front of an order.
use Rattle.std.proofs.Common.{◌≡◌, ℕ, zero, suc, ◌<◌, List, [], ◌∷◌, length, take, slice_index_or, refl, ap, arith}

pub length_front : (n : ℕ) (ns : List ℕ) → n < length ns → n ≡ length (take n ns)
length_front zero ns lt = refl
length_front (suc n) [] lt = absurd (omega (arith, lt))
length_front (suc n) (m ∷ ns) lt = ap suc (length_front n ns (omega (arith, lt)))

-- what is below a bound everywhere is so at the front
pub front_below : (n bound : ℕ) (ns : List ℕ) → ((k d : ℕ) → k < length ns → slice_index_or ns k d < bound) → (k d : ℕ) → k < length (take n ns) → slice_index_or (take n ns) k d < bound
front_below zero bound ns all k d lt = absurd (omega (arith, lt))
front_below (suc n) bound [] all k d lt = absurd (omega (arith, lt))
front_below (suc n) bound (m ∷ ns) all zero d lt = all zero d (omega arith)
front_below (suc n) bound (m ∷ ns) all (suc k) d lt = front_below n bound ns (λ i e below. all (suc i) e (omega (arith, below))) k d (omega (arith, lt))
