-- Copies of the first contracts, and one more.
use Rattle.std.proofs.Common.{◌≡◌, ℕ, ◌+◌, ◌<◌, List, [], ◌∷◌, ◌++◌, length, map, take, get_or, sym, ◌∙◌, ap, subst}
use Rattle.std.proofs.lemmas.List.{take_more, get_or-map, length-map, map-append}

module _ {X Y : Type 0} (f : X → Y) (xs : List X) (i : ℕ) (x : X) (below : i < length xs) (is : x ≡ get_or xs i x) where
  in_views : i < length (map f xs)
  in_views = subst (λ n. i < n) (sym (length-map xs f)) below

  view_at : get_or (map f xs) i (f x) ≡ f x
  view_at = get_or-map f xs i x (f x) below ∙ ap f (sym is)

  -- one more is copied
  pub one_copied : {Z : Type 0} (g : Z → Y) (copies next : List Z) (z : Z) → g z ≡ f x → next ≡ copies ++ z ∷ [] → map g copies ≡ take i (map f xs) → map g next ≡ take (i + 1) (map f xs)
  one_copied g copies next z same next_is so_far =
      ap (map g) next_is
      ∙ (map-append g copies (z ∷ [])
      ∙ ((λ k. so_far k ++ (same ∙ sym view_at) k ∷ []) ∙ sym (take_more (map f xs) i (f x) in_views)))
