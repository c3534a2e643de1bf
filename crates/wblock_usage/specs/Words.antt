-- The words of a debugger's commands.
use Rattle.std.specs.Prelude.{◌≡◌, ◌≢◌, ℕ, ◌<◌, ◌^◌, List, ◌∷◌, ◌++◌, codes, decimal}
use Rattle.std.specs.List.{AllByRecursion, AllZip}
use Rattle.std.specs.Borrow.{Bor}
use Rattle.wblock_line.specs.Words.{Choice}
use Rattle.wblock_usage.specs.declared.spot.Spot.{Spot}
use Rattle.wblock_usage.specs.declared.spot.Spot.TheVariants.{Own, Of, Exported}
use Rattle.wblock_usage.specs.declared.debugging.Command.{Command}
use Rattle.wblock_usage.specs.declared.debugging.Command.TheVariants.{Step, Back, Cont, Place, Break, Clear, Stack, Locals, Globals, Bytes, Cells, Where}

-- `NAME:N`
abbrev pub with_number : List ℕ → ℕ → List ℕ
with_number name n = name ++ 58 ∷ decimal n

-- `M:N`
abbrev pub two_numbers : ℕ → ℕ → List ℕ
two_numbers m n = decimal m ++ 58 ∷ decimal n

-- `NAME:M:N`
abbrev pub with_numbers : List ℕ → ℕ → ℕ → List ℕ
with_numbers name m n = name ++ 58 ∷ two_numbers m n

-- `F:O`, `C:F:O` or `NAME:O`
abbrev pub spot_text : Spot → List ℕ
spot_text (Own f o) = two_numbers f o
spot_text (Of c f o) = two_numbers c f ++ 58 ∷ decimal o
spot_text (Exported name o) = name.now ++ 58 ∷ decimal o

-- a text that is no number of 32 bits, nor two of them with a colon between them
pub record IsNoNumber (text : List ℕ) : Type 0 where
  pub not_one : (n : ℕ) → n < 2 ^ 32 → text ≢ decimal n
  pub not_two : (m n : ℕ) → m < 2 ^ 32 → n < 2 ^ 32 → text ≢ two_numbers m n

-- places have numbers of 32 bits; a name that is a number, or two, is read as these
abbrev pub IsSpotInRange : Spot → Type 0
IsSpotInRange (Own f o) = (f < 2 ^ 32) × (o < 2 ^ 32)
IsSpotInRange (Of c f o) = (c < 2 ^ 32) × (f < 2 ^ 32) × (o < 2 ^ 32)
IsSpotInRange (Exported name o) = (o < 2 ^ 32) × IsNoNumber name.now

-- the text spells the spot
pub record SpellsSpot (text : List ℕ) (s : Spot) : Type 0 where
  pub text_is : text ≡ spot_text s
  pub in_range : IsSpotInRange s

abbrev pub word_of : Command → List ℕ
word_of (Step n) = with_number (codes "step") n
word_of (Back n) = with_number (codes "back") n
word_of Cont = codes "cont"
word_of Place = codes "place"
word_of (Break spot) = codes "break" ++ 58 ∷ spot_text spot
word_of (Clear spot) = codes "clear" ++ 58 ∷ spot_text spot
word_of Stack = codes "stack"
word_of Locals = codes "locals"
word_of Globals = codes "globals"
word_of Cells = codes "cells"
word_of Where = codes "where"
word_of (Bytes from n) = with_numbers (codes "bytes") from n

-- numbers have 64 bits, but for those of places
abbrev pub IsInRange : Command → Type 0
IsInRange (Step n) = n < 2 ^ 64
IsInRange (Back n) = n < 2 ^ 64
IsInRange (Break spot) = IsSpotInRange spot
IsInRange (Clear spot) = IsSpotInRange spot
IsInRange (Bytes from n) = (from < 2 ^ 64) × (n < 2 ^ 64)
IsInRange Cont = Unit {0}
IsInRange Place = Unit {0}
IsInRange Stack = Unit {0}
IsInRange Locals = Unit {0}
IsInRange Globals = Unit {0}
IsInRange Cells = Unit {0}
IsInRange Where = Unit {0}

-- the word spells the command
pub record Spells (word : List ℕ) (c : Command) : Type 0 where
  pub word_is : word ≡ word_of c
  pub in_range : IsInRange c

-- each word spells its command
abbrev pub Spell : List (List ℕ) → List Command → Type 0
Spell words commands = AllZip Spells words commands

abbrev pub choice : Bor (List ℕ) × Bor (List ℕ) → Choice
choice o = (o.0.now, o.1.now)

-- ---- words that spell no command of a kind

abbrev pub HasNoColon : List ℕ → Type 0
HasNoColon word = AllByRecursion (λ b. b ≢ 58) word

abbrev pub IsNotPlain : List ℕ → Type 0
IsNotPlain word = (word ≢ codes "cont") × (word ≢ codes "place") × (word ≢ codes "stack") × (word ≢ codes "locals") × (word ≢ codes "globals") × (word ≢ codes "cells") × (word ≢ codes "where")

abbrev pub IsNoMove : List ℕ → Type 0
IsNoMove word = (n : ℕ) → n < 2 ^ 64 → (word ≢ word_of (Step n)) × (word ≢ word_of (Back n))

abbrev pub IsNoSpot : List ℕ → Type 0
IsNoSpot text = (s : Spot) → ¬ SpellsSpot text s

pub record IsNoBreak (word : List ℕ) : Type 0 where
  pub no_break : (s : Spot) → IsSpotInRange s → word ≢ word_of (Break s)
  pub no_clear : (s : Spot) → IsSpotInRange s → word ≢ word_of (Clear s)

abbrev pub AreNoBytes : List ℕ → Type 0
AreNoBytes word = (from n : ℕ) → from < 2 ^ 64 → n < 2 ^ 64 → word ≢ word_of (Bytes from n)
