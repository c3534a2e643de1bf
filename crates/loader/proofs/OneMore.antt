-- One more item.
use Rattle.std.proofs.Common.{◌≡◌, true, Bool, List, [], ◌∷◌, ◌++◌, map, ap, ◌∙◌, refl}
use Rattle.std.specs.List.{list_all}
use Rattle.std.proofs.lemmas.List.{map-append}
use Rattle.std.proofs.lemmas.List.Folds.{list_all-append}

pub one_more_view : {X Y : Type 0} (view : X → Y) (xs ys : List X) (x : X) → ys ≡ xs ++ x ∷ [] → map view ys ≡ map view xs ++ view x ∷ []
one_more_view view xs ys x e = ap (map view) e ∙ map-append view xs (x ∷ [])

pub one_more_keeps : {X : Type 0} (p : X → Bool) (xs ys : List X) (x : X) → ys ≡ xs ++ x ∷ [] → list_all p xs ≡ true → p x ≡ true → list_all p ys ≡ true
one_more_keeps p xs ys x e so_far here = ap (list_all p) e ∙ list_all-append p xs (x ∷ []) ∙ rw (so_far, here) refl
