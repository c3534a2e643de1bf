-- Values as far as a loop has come.
use Rattle.std.proofs.Common.{◌≡◌, ℕ, ◌+◌, ◌<◌, List, [], ◌∷◌, ◌++◌, length, get_or, drop, map, sym, ap, ◌∙◌, append_assoc}
use Rattle.std.proofs.lemmas.List.{drop_more, map-append}
use Rattle.serde_json.specs.Data.{Data}
use Rattle.serde_json.specs.View.{view}
use Rattle.serde_json.specs.declared.value.Value.{Value}
use Rattle.wblock_json.specs.Json.{numbered}

next_value : {X Y : Type 0} (value : ℕ → Y → Data) (of : X → Y) (xs : List X) (x : X) (i n : ℕ) → i < length xs → x ≡ get_or xs i x
    → numbered value n (map of (drop i xs)) ≡ value n (of x) ∷ numbered value (n + 1) (map of (drop (i + 1) xs))
next_value value of xs x i n lt at =
    ap (λ l. numbered value n (map of l)) (drop_more xs i x lt) ∙ ap (λ y. value n (of y) ∷ numbered value (n + 1) (map of (drop (i + 1) xs))) (sym at)

-- one more value
pub one_value : {X Y : Type 0} (value : ℕ → Y → Data) (of : X → Y) (xs : List X) (x : X) (i n : ℕ) (old new : List Value) (v : Value) (all : List Data) → i < length xs → x ≡ get_or xs i x
    → map view old ++ numbered value n (map of (drop i xs)) ≡ all → new ≡ old ++ v ∷ [] → view v ≡ value n (of x) → map view new ++ numbered value (n + 1) (map of (drop (i + 1) xs)) ≡ all
one_value value of xs x i n old new v all lt at so_far pushed is =
    let rest : List Data = numbered value (n + 1) (map of (drop (i + 1) xs)) in
    let next : numbered value n (map of (drop i xs)) ≡ value n (of x) ∷ rest = next_value value of xs x i n lt at in
    ap (λ (l : List Value). map view l ++ rest) pushed
    ∙ (ap (λ (l : List Data). l ++ rest) (map-append view old (v ∷ []))
    ∙ (append_assoc (map view old) (view v ∷ []) rest
    ∙ (ap (λ (d : Data). map view old ++ (d ∷ rest)) is
    ∙ (ap (λ (l : List Data). map view old ++ l) (sym next) ∙ so_far))))
