-- Functions as they are counted.
use Rattle.std.proofs.Common.{◌≡◌, ℕ, ◌+◌, ◌<◌, ◌≤◌, List, ◌∷◌, length, get_or, drop, map, sym, ap, ◌∙◌, arith}
use Rattle.std.proofs.lemmas.List.{drop_more}
use Rattle.std.proofs.Math.ListN.{drop_of_length-le}
use Rattle.spec_text.specs.FieldsOfBytes as N
use Rattle.assembler.specs.FunctionCounts.{has_func, count_funcs}

-- as far as a loop has come
pub count_more : {X : Type 0} (f : X → N.Field) (xs : List X) (i : ℕ) (x : X) (n k whole : ℕ) → i < length xs → x ≡ get_or xs i x → n + count_funcs (map f (drop i xs)) ≡ whole → k ≡ has_func (f x)
    → (n + k) + count_funcs (map f (drop (i + 1) xs)) ≡ whole
count_more f xs i x n k whole l at so_far step =
    let split : count_funcs (map f (drop i xs)) ≡ has_func (f x) + count_funcs (map f (drop (i + 1) xs)) = ap (λ l. count_funcs (map f l)) (drop_more xs i x l ∙ ap (λ y. y ∷ drop (i + 1) xs) (sym at)) in
    omega (arith, so_far, step, split)

pub all_counted : {X : Type 0} (f : X → N.Field) (xs : List X) (i n whole : ℕ) → length xs ≤ i → n + count_funcs (map f (drop i xs)) ≡ whole → n ≡ whole
all_counted f xs i n whole l e =
    let none : count_funcs (map f (drop i xs)) ≡ 0 = ap (λ l. count_funcs (map f l)) (drop_of_length-le xs l) in
    omega (arith, e, none)
