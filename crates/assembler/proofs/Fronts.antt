-- Lists from the last to the first.
use Rattle.std.proofs.Common.{◌≡◌, ℕ, ◌<◌, true, false, cond, List, [], ◌∷◌, ◌++◌, length, map, reverse, Some, None, refl, ap, ◌∙◌, arith}
use Rattle.std.proofs.lemmas.Bool.{cond-false}
use Rattle.std.proofs.lemmas.List.{map-append, reverse-append}
use Rattle.std.proofs.lemmas.List.Folds.{list_all-append}
use Rattle.spec_modules.specs.Limits.{both, counts_from}
use Rattle.module_tree.specs.ModuleView.{all_numbered}
use Rattle.text_resolve.specs.Types.{is_empty}

-- one more at the end is one more in front
pub pushed : {X Y : Type 0} (v : X → Y) (xs : List X) (x : X) → reverse (map v (xs ++ x ∷ [])) ≡ v x ∷ reverse (map v xs)
pushed v xs x = ap reverse (map-append v xs (x ∷ [])) ∙ reverse-append (map v xs) (v x ∷ [])

back : {X Y : Type 0} (v : X → Y) (xs : List X) → reverse (map v (reverse xs)) ≡ map v xs
back v [] = refl
back v (x ∷ xs) = ap (λ l. reverse (map v l)) (reverse-append (x ∷ []) xs) ∙ pushed v (reverse xs) x ∙ ap (λ l. v x ∷ l) (back v xs)

-- more at the end, the last first, are those in front
pub joined : {X Y : Type 0} (v : X → Y) (xs ys : List X) → reverse (map v (xs ++ reverse ys)) ≡ map v ys ++ reverse (map v xs)
joined v xs ys = ap reverse (map-append v xs (reverse ys)) ∙ reverse-append (map v xs) (map v (reverse ys)) ∙ ap (λ l. l ++ reverse (map v xs)) (back v ys)

not_empty : {X : Type 0} (xs : List X) (x : X) → is_empty (xs ++ x ∷ []) ≡ false
not_empty [] x = refl
not_empty (y ∷ ys) x = refl

-- where there is none
pub before : {X Y Z : Type 0} (v : X → Y) (xs : List X) (z : Z) → length xs ≡ 0 → cond (is_empty (reverse (map v xs))) (Some z) None ≡ Some z
before v [] z e = refl
before v (x ∷ xs) z e = absurd (omega (arith, e))

-- where there is one
pub behind : {X Y Z : Type 0} (v : X → Y) (xs : List X) (z : Z) → 0 < length xs → cond (is_empty (reverse (map v xs))) (Some z) None ≡ None
behind v [] z l = absurd (omega (arith, l))
behind v (x ∷ xs) z l = cond-false (is_empty (reverse (v x ∷ map v xs))) (Some z) None (ap is_empty (reverse-append (v x ∷ []) (map v xs)) ∙ not_empty (reverse (map v xs)) (v x))

pub numbered_push : {X : Type 0} (f : X → List ℕ) (xs : List X) (x : X) → all_numbered (map f xs) ≡ true → counts_from 0 (f x) ≡ true → all_numbered (map f (xs ++ x ∷ [])) ≡ true
numbered_push f xs x a b =
    ap all_numbered (map-append f xs (x ∷ [])) ∙ list_all-append (counts_from 0) (map f xs) (f x ∷ [])
    ∙ both (all_numbered (map f xs)) (all_numbered (f x ∷ [])) a (both (counts_from 0 (f x)) true b refl)
