-- Lines as far as a loop has come, and texts that stand behind one another.
use Rattle.std.proofs.Common.{◌≡◌, ℕ, ◌+◌, ◌<◌, List, ◌++◌, length, get_or, drop, map, sym, ap, ap₂, ◌∙◌, append_assoc}
use Rattle.std.proofs.lemmas.List.{drop_more}
use Rattle.wblock_contents.specs.Lines.{numbered}

next_line : {X Y : Type 0} (line : ℕ → Y → List ℕ) (view : X → Y) (xs : List X) (x : X) (i n : ℕ) → i < length xs → x ≡ get_or xs i x
    → numbered line n (map view (drop i xs)) ≡ line n (view x) ++ numbered line (n + 1) (map view (drop (i + 1) xs))
next_line line view xs x i n lt at =
    ap (λ l. numbered line n (map view l)) (drop_more xs i x lt) ∙ ap (λ y. line n (view y) ++ numbered line (n + 1) (map view (drop (i + 1) xs))) (sym at)

-- one more line
pub one_line : {X Y : Type 0} (line : ℕ → Y → List ℕ) (view : X → Y) (xs : List X) (x : X) (i n : ℕ) (text new all : List ℕ) → i < length xs → x ≡ get_or xs i x
    → text ++ numbered line n (map view (drop i xs)) ≡ all → new ≡ text ++ line n (view x) → new ++ numbered line (n + 1) (map view (drop (i + 1) xs)) ≡ all
one_line line view xs x i n text new all lt at so_far pushed =
    let rest = numbered line (n + 1) (map view (drop (i + 1) xs)) in
    ap (λ t. t ++ rest) pushed ∙ (append_assoc text (line n (view x)) rest ∙ (ap (λ l. text ++ l) (sym (next_line line view xs x i n lt at)) ∙ so_far))

joined : {a b c d : List ℕ} → a ≡ b → c ≡ d → a ++ c ≡ b ++ d
joined p q = ap₂ (λ (x y : List ℕ). x ++ y) p q

pub five : {a b c d e f g h i j : List ℕ} → a ≡ b → c ≡ d → e ≡ f → g ≡ h → i ≡ j → a ++ (c ++ (e ++ (g ++ i))) ≡ b ++ (d ++ (f ++ (h ++ j)))
five p q r s t = joined p (joined q (joined r (joined s t)))
