-- A refusal has no float, and few arrays and objects within one another.
use Rattle.std.proofs.Common.{ℕ, Bool, true, false, Option, List, [], ◌∷◌, if◌then◌else◌, codes, map, arith}
use Rattle.std.specs.Str.{bytes_eq}
use Rattle.serde_json.specs.Data.{Data, null, string}
use Rattle.wblock_json.specs.Json.{IsFlat, array_of, maybe, small}
use Rattle.wblock_json.specs.Refusals.{kind_data, number_data, numbers_in, reason_data, refusal_data, words_in}
use Rattle.wblock_json.proofs.Flat.{array_flat, map_flat, maybe_flat, null_flat, object_flat, small_flat, string_flat}

kind_flat : (n : ℕ) (words : List (List ℕ)) → IsFlat n (kind_data words)
kind_flat n [] = null_flat n
kind_flat n (first ∷ []) = null_flat n
kind_flat n (first ∷ kind ∷ numbers) = string_flat n _

spelled_flat : (n : ℕ) (b : Bool) (s : List ℕ) → IsFlat n (if b then null else string s)
spelled_flat n true s = null_flat n
spelled_flat n false s = string_flat n s

number_flat : (n : ℕ) (word : List ℕ) → IsFlat n (number_data word)
number_flat n word = spelled_flat n (bytes_eq word (codes "-")) word

reason_flat : (number : Option ℕ) (words : List (List ℕ)) (sentence : List ℕ) → IsFlat 2 (reason_data number words sentence)
unfolding reason_data
reason_flat number words sentence =
    let members : List (List ℕ × Data) = (codes "kind", kind_data words) ∷ (codes "module", maybe small number) ∷ (codes "numbers", array_of (map number_data (numbers_in words))) ∷ (codes "sentence", string sentence) ∷ [] in
    object_flat 1 2 members (omega arith) (kind_flat 1 words, (maybe_flat 1 small number (small_flat 1), (array_flat 0 1 _ (omega arith) (map_flat 0 number_data (numbers_in words) (number_flat 0)), (string_flat 1 _, tt))))

pub refusal_flat : (number : Option ℕ) (line sentence : List ℕ) → IsFlat 127 (refusal_data number line sentence)
unfolding refusal_data
refusal_flat number line sentence =
    let members : List (List ℕ × Data) = (codes "refused", reason_data number (words_in line) sentence) ∷ [] in
    object_flat 2 127 members (omega arith) (reason_flat number (words_in line) sentence, tt)
