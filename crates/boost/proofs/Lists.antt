-- Lists taken apart at a place.
use Rattle.std.proofs.Common.{◌≡◌, ℕ, ◌+◌, ◌<◌, List, ◌∷◌, ◌++◌, length, take, drop, get_or, set, sym, ◌∙◌, ap, add-one}
use Rattle.std.proofs.lemmas.List.{take-append-drop, append_cancel_left, drop-set, take-set}
use Rattle.std.proofs.Math.Seq.{drop-cons}

module _ {A : Type 0} where
  -- a list round the element at a place
  pub split_at : (xs : List A) (i : ℕ) (a : A) → i < length xs → a ≡ get_or xs i a → xs ≡ take i xs ++ a ∷ drop (i + 1) xs
  split_at xs i a below is =
      sym (take-append-drop i xs) ∙ ap (λ ys. take i xs ++ ys) (drop-cons xs i a below ∙ (λ k. sym is k ∷ drop (sym (add-one i) k) xs))

  -- the element is the only one
  pub at_split : (xs : List A) (i : ℕ) (a b : A) → i < length xs → b ≡ get_or xs i b → xs ≡ take i xs ++ a ∷ drop (i + 1) xs → a ≡ b
  at_split xs i a b below is split =
      let e : a ∷ drop (i + 1) xs ≡ b ∷ drop (i + 1) xs = append_cancel_left (take i xs) (a ∷ drop (i + 1) xs) (b ∷ drop (i + 1) xs) (sym split ∙ split_at xs i b below is) in
      cc

  pub set_split : (xs : List A) (i : ℕ) (y : A) → i < length xs → set xs i y ≡ take i xs ++ y ∷ drop (i + 1) xs
  set_split xs i y below = sym (take-append-drop i (set xs i y)) ∙ (λ k. take-set xs i y k ++ drop-set xs i y below k)
