-- Lists with one element written anew.
use Rattle.std.proofs.Common.{◌≡◌, ◌≢◌, ◌⊎◌, inl, inr, ⊎_elim, ℕ, zero, suc, List, [], ◌∷◌, set, refl, ap, Some, None, slice_get}

module _ {A : Type 0} where
  pub set_other : (xs : List A) (i k : ℕ) (v : A) → k ≢ i → slice_get (set xs i v) k ≡ slice_get xs k
  set_other [] i k v ne = refl
  set_other (x ∷ xs) zero zero v ne = absurd (ne refl)
  set_other (x ∷ xs) zero (suc k) v ne = refl
  set_other (x ∷ xs) (suc i) zero v ne = refl
  set_other (x ∷ xs) (suc i) (suc k) v ne = set_other xs i k v (λ e. ne (ap suc e))

  pub set_same : (xs : List A) (i : ℕ) (v x : A) → slice_get xs i ≡ Some x → slice_get (set xs i v) i ≡ Some v
  set_same [] i v x h = let no : None ≡ Some x = h in cc
  set_same (y ∷ xs) zero v x h = refl
  set_same (y ∷ xs) (suc i) v x h = set_same xs i v x h

  -- what is there was written there, or was there before
  pub set_tells : (xs : List A) (i k : ℕ) (v y : A) → slice_get (set xs i v) k ≡ Some y → ((k ≡ i) × (v ≡ y)) ⊎ (slice_get xs k ≡ Some y)
  set_tells [] i k v y h = inr h
  set_tells (x ∷ xs) zero zero v y h = inl (refl, cc)
  set_tells (x ∷ xs) zero (suc k) v y h = inr h
  set_tells (x ∷ xs) (suc i) zero v y h = inr h
  set_tells (x ∷ xs) (suc i) (suc k) v y h = ⊎_elim (λ e. inl (ap suc e.0, e.1)) (λ e. inr e) (set_tells xs i k v y h)
