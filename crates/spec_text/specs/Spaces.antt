-- Index spaces and their names (Core 6.1.3, Contexts; 6.6.1, Indices).
use Rattle.std.specs.Prelude.{◌≡◌, ◌≢◌, ℕ, suc, List, [], ◌∷◌, Option, Some, None}
use Rattle.spec_modules.specs.Syntax.{FuncType}
use Rattle.spec_text.specs.FieldsOfBytes
use Rattle.spec_text.specs.FieldsOfBytes.{Index, Numbered}
use Rattle.spec_text.specs.Numbers.{IsU32}

-- the names of an index space, one for each index: the (id?)* of a component of I (6.1.3)
abbrev pub Names : Type 0
Names = List (Option (List ℕ))

-- the first place of a name; of labels that is the innermost
pub data FirstAt (id : List ℕ) : Names → ℕ → Type 0 where
  here : {n : Option (List ℕ)} {ns : Names} → n ≡ Some id → FirstAt id (n ∷ ns) 0
  later : {n : Option (List ℕ)} {ns : Names} {i : ℕ} → n ≢ Some id → FirstAt id ns i → FirstAt id (n ∷ ns) (suc i)

-- 6.6.1: funcidx_I ::= x:u32 ⇒ x | v:id ⇒ x (if I.funcs[x] = v), and so for each other index space
pub data Stands (names : Names) : Index → ℕ → Type 0 where
  -- x:u32 ⇒ x
  by_number : {text : List ℕ} {n : ℕ} → IsU32 text n → Stands names (Numbered text) n
  -- v:id ⇒ x (if I.funcs[x] = v)
  by_name : {id : List ℕ} {n : ℕ} → FirstAt id names n → Stands names (FieldsOfBytes.Named id) n

-- no name stands twice: "well-formed" of a context (6.1.3)
pub data AreDistinct : Names → Type 0 where
  no_names : AreDistinct []
  unnamed : {ns : Names} → AreDistinct ns → AreDistinct (None ∷ ns)
  a_name : {id : List ℕ} {ns : Names} → ((i : ℕ) → FirstAt id ns i → ⊥) → AreDistinct ns → AreDistinct (Some id ∷ ns)

-- the identifier context I (6.1.3): the module's types (typedefs) and the names of its index spaces; those of locals and labels
-- stand beside it
pub record Spaces : Type 0 where
  pub types : List FuncType
  pub type_names : Names
  pub funcs : Names
  pub tables : Names
  pub memories : Names
  pub globals : Names
