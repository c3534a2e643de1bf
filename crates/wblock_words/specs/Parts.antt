-- What stands at the front of bytes.
use Rattle.std.specs.Prelude.{◌≡◌, ℕ, Bool, true, List, [], ◌∷◌, ◌++◌, codes, length, nat_lt}
use Rattle.std.specs.Str.{IsUtf8}
use Rattle.spec_modules.specs.Syntax.{Name}
use Rattle.spec_modules.specs.Language.{Language, empty, ◌⨾◌, ◌∣◌}
use Rattle.spec_modules.specs.Leb.{u32}
use Rattle.spec_modules.specs.Grammar.{name, section, times, header}
use Rattle.wblock_words.specs.Names.{Named, anything, other_section}

-- a number, and the rest
pub record HasNumber (bytes : List ℕ) (n : ℕ) (rest : List ℕ) : Type 0 where
  pub front : List ℕ
  pub spelled : u32 n front
  pub bytes_are : bytes ≡ front ++ rest

-- a size and so many bytes, and the rest
pub record HasSized (bytes content rest : List ℕ) : Type 0 where
  pub front : List ℕ
  pub spelled : u32 (length content) front
  pub bytes_are : bytes ≡ front ++ (content ++ rest)

-- a name, and the rest
pub record HasName (bytes : List ℕ) (n : Name) (rest : List ℕ) : Type 0 where
  pub is_text : IsUtf8 n
  pub sized : HasSized bytes n rest

-- a section, and the rest
pub record HasSection (bytes : List ℕ) (id : ℕ) (content rest : List ℕ) : Type 0 where
  pub after : List ℕ
  pub bytes_are : bytes ≡ id ∷ after
  pub sized : HasSized after content rest

-- this and nothing else is so
abbrev pub IsOnly : (List ℕ → Type 0) → List ℕ → Type 0
IsOnly P x = P x × ((y : List ℕ) → P y → y ≡ x)

-- ---- the parts of the section

abbrev pub exactly : List ℕ → Language
exactly content bytes = bytes ≡ content

-- a section of this id with this content is a custom section `name`, with this behind its name
abbrev pub IsNameData : (id : ℕ) → (content payload : List ℕ) → Type 0
IsNameData id content payload = (id ≡ 0) × (name (codes "name") ⨾ exactly payload) content

-- the first custom section `name` has this behind its name
abbrev pub HasNameSection : (bytes payload : List ℕ) → Type 0
HasNameSection bytes payload = (k : ℕ) × (header ⨾ times k other_section ⨾ section 0 (name (codes "name") ⨾ exactly payload) ⨾ anything) bytes

-- the subsection of the names of functions has this content
abbrev pub HasFunctions : (payload functions : List ℕ) → Type 0
HasFunctions payload functions = ((empty ∣ section 0 anything) ⨾ section 1 (exactly functions) ⨾ anything) payload

-- whether a number is above the last of the names
abbrev pub is_above : List Named → ℕ → Bool
is_above [] number = true
is_above (a ∷ []) number = nat_lt a.0 number
is_above (a ∷ b ∷ more) number = is_above (b ∷ more) number
