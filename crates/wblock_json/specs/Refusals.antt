-- A refusal as JSON: the words of its line, `refused KIND NUMBER...`, and its sentence.
use Rattle.std.specs.Prelude.{ℕ, ◌==◌, Bool, Option, List, [], ◌∷◌, codes, map, if◌then◌else◌}
use Rattle.std.specs.List.{before_first}
use Rattle.std.specs.Str.{bytes_eq}
use Rattle.serde_json.specs.Data.{Data, null, string}
use Rattle.wblock_calls.specs.Texts.{words_of}
use Rattle.wblock_json.specs.Json.{array_of, maybe, object_of, small}

abbrev pub is_newline : ℕ → Bool
is_newline b = b == 10

-- the words of a line, its newline left out
abbrev pub words_in : List ℕ → List (List ℕ)
words_in line = words_of (before_first is_newline line)

-- the word behind `refused`
abbrev pub kind_data : List (List ℕ) → Data
kind_data [] = null
kind_data (first ∷ []) = null
kind_data (first ∷ kind ∷ numbers) = string kind

-- the words behind the kind
abbrev pub numbers_in : List (List ℕ) → List (List ℕ)
numbers_in [] = []
numbers_in (first ∷ []) = []
numbers_in (first ∷ kind ∷ numbers) = numbers

-- a number as the line spells it; null where the line has a dash, since there is none
abbrev pub number_data : List ℕ → Data
number_data word = if bytes_eq word (codes "-") then null else string word

-- of a line of these words and its sentence, and of the module of this number, where one of several is refused
unfoldable pub reason_data : (number : Option ℕ) (words : List (List ℕ)) (sentence : List ℕ) → Data
reason_data number words sentence =
    object_of
    ((codes "kind", kind_data words)
    ∷ (codes "module", maybe small number)
    ∷ (codes "numbers", array_of (map number_data (numbers_in words)))
    ∷ (codes "sentence", string sentence)
    ∷ [])

unfoldable pub refusal_data : (number : Option ℕ) (line sentence : List ℕ) → Data
refusal_data number line sentence = object_of ((codes "refused", reason_data number (words_in line) sentence) ∷ [])
