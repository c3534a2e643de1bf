-- What is told in the form that is asked for.
use Rattle.std.specs.Prelude.{◌≡◌, ℕ, Bool, true, false, List, [], ◌∷◌, ◌++◌, None, codes, decimal, string_bytes}
use Rattle.serde_json.specs.Data.{Data}
use Rattle.wblock_json.specs.Json.{IsJson, IsLineOf, object_of, small}
use Rattle.wblock_json.specs.Refusals.{refusal_data}
use Rattle.wblock_line.specs.declared.answer.Answer.{Answer}
use Rattle.wblock_line.specs.declared.answer.Answer.TheVariants.{Done, Refused}

-- the answer is the refusal of this line: the line is printed, or the object of it and of the sentence that is said
abbrev pub IsRefusalIn : (json : Bool) → (line : List ℕ) → Answer → Type 0
IsRefusalIn json line (Done writes text) = ⊥
IsRefusalIn false line (Refused told why) = string_bytes told ≡ line
IsRefusalIn true line (Refused told why) = IsLineOf (IsJson (refusal_data None line (string_bytes why))) (string_bytes told)

-- the answer in the form that is asked for: a refusal as above, and what is done as it is
abbrev pub IsInForm : (json : Bool) → (plain : Answer) → Answer → Type 0
IsInForm json (Done writes text) a = a ≡ Done writes text
IsInForm json (Refused line why) a = IsRefusalIn json (string_bytes line) a

-- so many bytes were written
unfoldable pub bytes_data : (count : ℕ) → Data
bytes_data count = object_of ((codes "bytes", small count) ∷ [])

-- `WORD N bytes`, or the same as JSON
abbrev pub IsCountText : (json : Bool) → (word : List ℕ) → (count : ℕ) → List ℕ → Type 0
IsCountText false word count text = text ≡ word ++ codes " " ++ decimal count ++ codes " bytes" ++ 10 ∷ []
IsCountText true word count text = IsLineOf (IsJson (bytes_data count)) text
