-- The total over all views, when one of them changes.
use Rattle.std.proofs.Common.{◌≡◌, ℕ, zero, suc, ◌+◌, ◌≤◌, List, [], ◌∷◌, ◌++◌, set, sym, refl, ap, arith}
use mathlib.Core.Option.{some, some-injective, some-ne-none}
use lib.ListN.{get_elem?}
use Rattle.book_workers.specs.declared.account.Account.{Account}
use Rattle.book_workers.specs.Fair.{total}

pub total_set : (f : Account → ℕ) (views : List Account) (id : ℕ) (v w : Account) → get_elem? views id ≡ some v → total f (set views id w) + f v ≡ total f views + f w
total_set f [] id v w e = absurd (some-ne-none v (sym e))
total_set f (x ∷ xs) zero v w e = let same : f x ≡ f v = ap f (some-injective x v e) in omega arith
total_set f (x ∷ xs) (suc id) v w e = let r = total_set f xs id v w e in omega arith

pub total_snoc : (f : Account → ℕ) (views : List Account) (w : Account) → total f (views ++ w ∷ []) ≡ total f views + f w
total_snoc f [] w = omega arith
total_snoc f (x ∷ xs) w = let r = total_snoc f xs w in omega arith

pub total_at : (f : Account → ℕ) (views : List Account) (id : ℕ) (v : Account) → get_elem? views id ≡ some v → f v ≤ total f views
total_at f [] id v e = absurd (some-ne-none v (sym e))
total_at f (x ∷ xs) zero v e = let same : f x ≡ f v = ap f (some-injective x v e) in omega arith
total_at f (x ∷ xs) (suc id) v e = let r = total_at f xs id v e in omega arith

pub total_le : (f g : Account → ℕ) → ((v : Account) → f v ≤ g v) → (views : List Account) → total f views ≤ total g views
total_le f g le [] = omega arith
total_le f g le (x ∷ xs) = let r = total_le f g le xs in let h = le x in omega arith

total_none : (f p : Account → ℕ) (views : List Account) → total p views ≡ 0 → ((j : ℕ) (u : Account) → get_elem? views j ≡ some u → p u ≡ 0 → f u ≡ 0) → total f views ≡ 0
total_none f p [] e h = refl
total_none f p (x ∷ xs) e h = let here = h 0 x refl (omega arith) in let r = total_none f p xs (omega arith) (λ j u at. h (suc j) u at) in omega arith

-- one view has all the parts, and a view with no part counts for nothing
pub total_alone : (f p : Account → ℕ) (views : List Account) (id : ℕ) (v : Account) → get_elem? views id ≡ some v → total p views ≡ p v → ((j : ℕ) (u : Account) → get_elem? views j ≡ some u → p u ≡ 0 → f u ≡ 0)
    → total f views ≡ f v
total_alone f p [] id v e all h = absurd (some-ne-none v (sym e))
total_alone f p (x ∷ xs) zero v e all h = let same : f x ≡ f v = ap f (some-injective x v e) in let same' : p x ≡ p v = ap p (some-injective x v e) in
    let r = total_none f p xs (omega arith) (λ j u at. h (suc j) u at) in omega arith
total_alone f p (x ∷ xs) (suc id) v e all h = let most = total_at p xs id v e in let here = h 0 x refl (omega arith) in
    let r = total_alone f p xs id v e (omega arith) (λ j u at. h (suc j) u at) in omega arith
