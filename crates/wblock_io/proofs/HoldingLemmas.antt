-- A draft that grows piece by piece and is kept.
use Rattle.std.proofs.Common.{◌≡◌, ℕ, List, [], ◌∷◌, ◌++◌, ◌+◌, ◌≤◌, take, drop, length, ap, sym, ◌∙◌}
use Rattle.std.proofs.lemmas.List.{take_all}
use Rattle.byte_sinks.proofs.SinkLemmas.{take-add}
use Rattle.wblock_io.specs.Holding.{Draft}

-- a beginning, and then the next `n` bytes
pub grown : (others : List Draft) (name bytes : List ℕ) (i n : ℕ) (now new : List Draft) → now ≡ others ++ (name, take i bytes) ∷ []
    → ((ds : List Draft) (front : List ℕ) → now ≡ ds ++ (name, front) ∷ [] → new ≡ ds ++ (name, front ++ take n (drop i bytes)) ∷ []) → new ≡ others ++ (name, take (i + n) bytes) ∷ []
grown others name bytes i n now new before step = step others (take i bytes) before ∙ ap (λ (b : List ℕ). others ++ (name, b) ∷ []) (sym (take-add bytes i n))

-- a beginning that is all of it
pub whole : (others : List Draft) (name bytes : List ℕ) (i : ℕ) (now : List Draft) → length bytes ≤ i → now ≡ others ++ (name, take i bytes) ∷ [] → now ≡ others ++ (name, bytes) ∷ []
whole others name bytes i now all is = is ∙ ap (λ (b : List ℕ). others ++ (name, b) ∷ []) (take_all i bytes all)
