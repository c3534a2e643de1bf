-- Cells of a kind, counted, and put one after another.
use Rattle.std.proofs.Common.{◌≡◌, ℕ, ◌+◌, ◌<◌, ◌^◌, Bool, true, cond, List, [], ◌∷◌, ◌++◌, length, sym, ap, ◌∙◌, append_assoc, append-nil, length-append, arith}
use Rattle.std.specs.List.{filter, flat_map}
use Rattle.std.proofs.lemmas.List.Elements.{filter-append}
use Rattle.std.proofs.lemmas.List.Sums.{length-filter, count_by-le-length}
use Rattle.std.proofs.lemmas.List.Concat.{flat_map-append}

-- a count of what was gone over has room for one more
pub count_fits : {X : Type 0} (p : X → Bool) (ys rest all : List X) (n : ℕ) → n ≡ length (filter p ys) → ys ++ rest ≡ all → length all < 2 ^ 63 → n + 1 < 2 ^ 64
count_fits p ys rest all n count is few =
    let counted = length-filter p ys in
    let some = count_by-le-length p ys in
    let long = length-append ys rest in
    let same = ap length is in
    omega (arith, count, counted, some, long, same, few)

-- one that passes is put behind those that passed
pub one_more : {X : Type 0} (f : X → List ℕ) (p : X → Bool) (old out new : List ℕ) (ys : List X) (y : X) → p y ≡ true → out ≡ old ++ flat_map f (filter p ys) → new ≡ out ++ f y → new ≡ old ++ flat_map f (filter p (ys ++ y ∷ []))
one_more f p old out new ys y passes so_far is =
    let last : filter p (y ∷ []) ≡ y ∷ [] = ap (λ (b : Bool). cond b (y ∷ []) []) passes in
    let all : flat_map f (filter p (ys ++ y ∷ [])) ≡ flat_map f (filter p ys) ++ f y =
    ap (flat_map f) (filter-append p ys (y ∷ []) ∙ ap (λ l. filter p ys ++ l) last) ∙ flat_map-append f (filter p ys) (y ∷ []) ∙ ap (λ l. flat_map f (filter p ys) ++ l) (append-nil (f y)) in
    is ∙ ap (λ l. l ++ f y) so_far ∙ append_assoc old (flat_map f (filter p ys)) (f y) ∙ ap (λ l. old ++ l) (sym all)
