-- The bytes of contracts by their views, and of a world in its parts.
use Rattle.std.proofs.Common.{◌≡◌, ℕ, List, [], ◌∷◌, ◌++◌, length, map, refl, ap, ◌∙◌, append_assoc}
use Rattle.std.specs.Int.{w32, to_le_bytes}
use Rattle.std.specs.List.{flat_map}
use Rattle.link.specs.declared.deployed.Deployed.{Deployed}
use Rattle.spec_block.specs.Bytes.{contract_bytes}
use Rattle.world.specs.Views.{contract_view}

pub by_views : {A : Type 0} (contracts : List (Deployed A)) → flat_map contract_bytes (map contract_view contracts) ≡ flat_map (λ c. contract_bytes (contract_view c)) contracts
by_views [] = refl
by_views (c ∷ contracts) = ap (λ (s : List ℕ). contract_bytes (contract_view c) ++ s) (by_views contracts)

pub then : (old one two a b : List ℕ) → one ≡ old ++ a → two ≡ one ++ b → two ≡ old ++ (a ++ b)
then old one two a b p q = q ∙ (ap (λ (s : List ℕ). s ++ b) p ∙ append_assoc old a b)

-- a length, and then what is so long
pub counted_text : (old one two body text : List ℕ) (size : ℕ) → body ≡ text → size ≡ length body → one ≡ old ++ to_le_bytes w32 size → two ≡ one ++ body → two ≡ old ++ (to_le_bytes w32 (length text) ++ text)
counted_text old one two body text size is long p q =
    then old one two (to_le_bytes w32 (length text)) text
    (p ∙ ap (λ (n : ℕ). old ++ to_le_bytes w32 n) (long ∙ ap (λ (s : List ℕ). length s) is))
    (q ∙ ap (λ (s : List ℕ). one ++ s) is)
