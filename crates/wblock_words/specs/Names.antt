-- The names of functions that a module carries (Core Specification, 7.4.1 Name Section).
use Rattle.std.specs.Prelude.{◌≡◌, ◌==◌, ℕ, ◌<◌, ◌≤◌, ◌⊎◌, List, [], ◌∷◌, Option, Some, None, if◌then◌else◌, codes, map, ⊤}
use Rattle.spec_modules.specs.Syntax.{Name}
use Rattle.spec_modules.specs.Language.{Language, empty, ◌⨾◌, ◌∣◌}
use Rattle.spec_modules.specs.Leb.{u32}
use Rattle.spec_modules.specs.Grammar.{vector, name, section, times, header}
use Rattle.wblock_words.specs.declared.function_names.FunctionName.{FunctionName}

-- a function by its number, imports counted first, and its name
abbrev pub Named : Type 0
Named = ℕ × Name

-- (Name Maps) the number and the name of each, in the order of the numbers
abbrev pub name_assoc : Named → Language
name_assoc a = u32 a.0 ⨾ name a.1

abbrev pub Rises : List Named → Type 0
Rises [] = Unit {0}
Rises (a ∷ []) = Unit {0}
Rises (a ∷ b ∷ more) = (a.0 < b.0) × Rises (b ∷ more)

abbrev pub name_map : List Named → Language
name_map names bytes = Rises names × vector name_assoc names bytes

abbrev pub anything : Language
anything bytes = ⊤

-- (Subsections) a number and a size, as those of a section: 0 is the module's name, 1 has the names of functions; what comes behind is of no account
abbrev pub subsections : List Named → Language
subsections names = (empty ∣ section 0 anything) ⨾ section 1 (name_map names) ⨾ anything

-- a custom section with this name
abbrev pub is_called : List ℕ → Language
is_called title = section 0 (name title ⨾ anything)

-- a section that is no custom section `name`
abbrev pub other_section : Language
other_section bytes = ((id : ℕ) × section id anything bytes) × (is_called (codes "name") bytes → ⊥)

-- a module whose first custom section `name` has these names of functions
abbrev pub Carries : (bytes : List ℕ) → List Named → Type 0
Carries bytes names = (k : ℕ) × (header ⨾ times k other_section ⨾ section 0 (name (codes "name") ⨾ subsections names) ⨾ anything) bytes

-- the names are those that the bytes carry, or there is none where they carry none
abbrev pub AreNamesOf : (bytes : List ℕ) → List Named → Type 0
AreNamesOf bytes names = Carries bytes names ⊎ ((names ≡ []) × ((other : List Named) → ¬ Carries bytes other))

-- each is of this function or of one behind it
abbrev pub IsFrom : ℕ → List Named → Type 0
IsFrom n [] = Unit {0}
IsFrom n (a ∷ more) = (n ≤ a.0) × IsFrom n more

-- the name of the function of this number
abbrev pub name_among : List Named → ℕ → Option Name
name_among [] number = None
name_among (a ∷ more) number = if a.0 == number then Some a.1 else name_among more number

-- the bytes carry this name of the function of this number
abbrev pub IsNameOf : (bytes : List ℕ) → (number : ℕ) → Name → Type 0
IsNameOf bytes number n = (names : List Named) × Carries bytes names × (name_among names number ≡ Some n)

abbrev pub named_of : FunctionName → Named
named_of f = (f.number, f.name.now)

abbrev pub names_in : List FunctionName → List Named
names_in fs = map named_of fs
