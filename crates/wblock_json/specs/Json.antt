-- Values of JSON, and their text.
use Rattle.std.specs.Prelude.{◌≡◌, ℕ, ◌+◌, ◌≤◌, Option, Some, None, List, [], ◌∷◌, ◌++◌, decimal, false}
use Rattle.hex.specs.Hex.{encode_lower}
use Rattle.serde_json.specs.Data.{Data, null, string, number, unsigned, array, object, Members, no_members, put, depth}
use Rattle.serde_json.specs.Read.{read}
use Rattle.serde_json.specs.View.{items_of}
use Rattle.serde_json.specs.Written.{compact_text, has_float}

-- a number of 32 bits, or one that counts what is in memory
abbrev pub small : ℕ → Data
small n = number (unsigned n)

-- a number that may take more bits: the string of its decimal digits
abbrev pub large : ℕ → Data
large n = string (decimal n)

-- bytes, as the string of their hexadecimal digits
abbrev pub hex_data : List ℕ → Data
hex_data bytes = string (encode_lower bytes)

abbrev pub array_of : List Data → Data
array_of values = array (items_of values)

-- the value of what there is
abbrev pub maybe : {X : Type 0} → (X → Data) → Option X → Data
maybe value None = null
maybe value (Some x) = value x

-- the members after each of these was put among them
abbrev pub with_members : List (List ℕ × Data) → Members → Members
with_members [] members = members
with_members (m ∷ ms) members = with_members ms (put m.0 m.1 members)

-- the object with these members, which stand in the order of their names
abbrev pub object_of : List (List ℕ × Data) → Data
object_of members = object (with_members members no_members)

-- the value of each, the number of the first being n
abbrev pub numbered : {X : Type 0} → (ℕ → X → Data) → ℕ → List X → List Data
numbered value n [] = []
numbered value n (x ∷ xs) = value n x ∷ numbered value (n + 1) xs

-- it has no float, and no more than so many arrays and objects within one another
pub record IsFlat (most : ℕ) (d : Data) : Type 0 where
  pub no_float : has_float d ≡ false
  pub flat : depth d ≤ most

-- the text of a value, without spaces; it reads as the value
pub record IsJson (d : Data) (text : List ℕ) : Type 0 where
  pub text_is : text ≡ compact_text d
  pub reads : read text ≡ Some d

-- a line of which this is true, and its newline
pub record IsLineOf (Is : List ℕ → Type 0) (text : List ℕ) : Type 0 where
  pub line : List ℕ
  pub is : Is line
  pub text_is : text ≡ line ++ 10 ∷ []
