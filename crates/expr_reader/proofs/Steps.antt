-- One more item.
use Rattle.std.proofs.Common.{◌≡◌, ℕ, suc, List, [], ◌∷◌, ◌++◌, Some, None, refl, sym, ap, ◌∙◌, append_assoc}
use Rattle.std.specs.Prelude.{option_map}
use Rattle.spec_modules.specs.Reading.{Read}
use Rattle.laws_modules.specs.ReadingExpressions.{items_at}

-- items with these in front
abbrev pub front : {X : Type 0} → List X → Read (List X) → Read (List X)
front xs r = option_map (λ s. (xs ++ s.0, s.1)) r

pub front_none : {X : Type 0} (xs : List X) (r : Read (List X)) → xs ≡ [] → front xs r ≡ r
front_none xs None e = refl
front_none xs (Some s) e = ap (λ l. Some (l ++ s.0, s.1)) e

front_push : {X : Type 0} (xs : List X) (x : X) (r : Read (List X)) → front xs (option_map (λ s. (x ∷ s.0, s.1)) r) ≡ front (xs ++ x ∷ []) r
front_push xs x None = refl
front_push xs x (Some s) = ap (λ l. Some (l, s.1)) (sym (append_assoc xs (x ∷ []) s.0))

module _ {X : Type 0} (one : List ℕ → Read X) (whole : Read (List X)) (xs : List X) (n : ℕ) (bs : List ℕ) (so_far : front xs (items_at one n bs) ≡ whole) where
  pub one_more : (x : X) (zs : List X) (rest : List ℕ) (m : ℕ) → n ≡ suc m → one bs ≡ Some (x, rest) → zs ≡ xs ++ x ∷ [] → front zs (items_at one m rest) ≡ whole
  unfolding items_at
  one_more x zs rest m is found pushed =
      let step : items_at one n bs ≡ option_map (λ (s : List X × List ℕ). (x ∷ s.0, s.1)) (items_at one m rest) = rw (is, found) refl in
      ap (λ l. front l (items_at one m rest)) pushed ∙ sym (front_push xs x (items_at one m rest)) ∙ ap (front xs) (sym step) ∙ so_far

  pub none_more : (m : ℕ) → n ≡ suc m → one bs ≡ None → whole ≡ None
  unfolding items_at
  none_more m is none =
      let step : items_at one n bs ≡ None = rw (is, none) refl in
      sym so_far ∙ ap (front xs) step

  pub all_done : n ≡ 0 → whole ≡ Some (xs, bs)
  unfolding items_at
  all_done is =
      let step : items_at one n bs ≡ Some ([], bs) = rw is refl in
      sym so_far ∙ ap (front xs) step ∙ ap (λ l. Some (l, bs)) (append_nil xs)
    where
      append_nil : (l : List X) → l ++ [] ≡ l
      append_nil [] = refl
      append_nil (x ∷ l) = ap (λ k. x ∷ k) (append_nil l)
