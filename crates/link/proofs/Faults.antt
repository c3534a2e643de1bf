-- The first that fails a test.
use Rattle.std.proofs.Common.{◌≡◌, ℕ, suc, ◌+◌, ◌<◌, Bool, true, false, List, [], ◌∷◌, Some, None, All, take, length, slice_get, refl, subst, arith}
use Rattle.std.proofs.lemmas.List.Elements.{All-nil, All-cons}
use Rattle.link.specs.Tests.{step, first_fault}

module _ {X : Type 0} (test : X → Bool) where
  pub record FirstAt (xs : List X) (k : ℕ) : Type 0 where
    pub item : X
    pub there : slice_get xs k ≡ Some item
    pub below : k < length xs
    pub fails : test item ≡ false
    pub earlier : All (λ x. test x ≡ true) (take k xs)

  pub none_fails : (n : ℕ) (xs : List X) → first_fault test n xs ≡ None → All (λ x. test x ≡ true) xs
  none_fails n [] e = All-nil (λ x. test x ≡ true)
  none_fails n (x ∷ xs) e = at (test x) refl (λ e. none_fails (n + 1) xs e) e
    where
      at : (b : Bool) → test x ≡ b → (first_fault test (n + 1) xs ≡ None → All (λ x. test x ≡ true) xs) → step b n (first_fault test (n + 1) xs) ≡ None → All (λ x. test x ≡ true) (x ∷ xs)
      at true is k e = All-cons (λ x. test x ≡ true) x xs is (k e)
      at false is k e = absurd (cc)

  pub counted : (n k : ℕ) (xs : List X) → first_fault test n xs ≡ Some k → (j : ℕ) × (k ≡ n + j) × FirstAt xs j
  counted n k [] e = absurd (cc)
  counted n k (x ∷ xs) e = at (test x) refl (λ e. counted (n + 1) k xs e) e
    where
      at : (b : Bool) → test x ≡ b → (first_fault test (n + 1) xs ≡ Some k → (j : ℕ) × (k ≡ n + 1 + j) × FirstAt xs j) → step b n (first_fault test (n + 1) xs) ≡ Some k → (j : ℕ) × (k ≡ n + j) × FirstAt (x ∷ xs) j
      at true is r e =
          let (j, same, first) = r e in
          (suc j, omega (arith, same), record { item = first.item; there = first.there; below = omega (arith, first.below); fails = first.fails; earlier = All-cons (λ x. test x ≡ true) x (take j xs) is first.earlier })
      at false is r e =
          let same : n ≡ k = cc in
          (0, omega (arith, same), record { item = x; there = refl; below = omega arith; fails = is; earlier = All-nil (λ x. test x ≡ true) })

  pub first_at : (k : ℕ) (xs : List X) → first_fault test 0 xs ≡ Some k → FirstAt xs k
  first_at k xs e = let (j, same, first) = counted 0 k xs e in let back : j ≡ k = omega (arith, same) in subst (FirstAt xs) back first
