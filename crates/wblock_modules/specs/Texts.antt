-- What `text` answers.
use Rattle.std.specs.Prelude.{◌≡◌, ℕ, ◌⊎◌, Bool, true, false, List, [], ◌∷◌, ◌++◌, Some, codes, decimal, string_bytes}
use Rattle.spec_modules.specs.Syntax.{Module}
use Rattle.spec_modules.specs.Spells.{Spells}
use Rattle.spec_text.specs.Names.{Names}
use Rattle.spec_typing.specs.Modules.{ModuleTyped}
use Rattle.loader.specs.Refusals.{NoModule}
use Rattle.wblock_io.specs.Holding.{Holding}
use Rattle.wblock_line.specs.declared.answer.Answer.{Answer}
use Rattle.wblock_line.specs.declared.answer.Answer.TheVariants.{Done, Refused}
use Rattle.wblock_line.specs.Answers.{IsCounted}
use Rattle.wblock_line.specs.Refusals.{TellsNoModule}
use Rattle.wblock_line.specs.Forms.{IsInForm}
use Rattle.wblock_modules.specs.declared.text.Found.{Found}
use Rattle.wblock_modules.specs.declared.text.Found.TheVariants as found

-- ---- texts

-- the bytes spell the module; it is typed, if that is not left unchecked
pub record IsRead (unchecked : Bool) (bytes : List ℕ) (tree : Module) : Type 0 where
  pub spelled : Spells bytes tree
  pub typed : unchecked ≡ false → ModuleTyped tree

-- the text names the module that the bytes spell
pub record IsTextOf (unchecked : Bool) (bytes text : List ℕ) : Type 0 where
  pub tree : Module
  pub read : IsRead unchecked bytes tree
  pub names : Names text tree

-- the file is to hold a text that names the module
pub record TellsText (unchecked json : Bool) (bytes target : List ℕ) (a : Answer) : Type 0 where
  pub text : List ℕ
  pub is_text : IsTextOf unchecked bytes text
  pub is_done : IsCounted json (codes "text") target text a

-- ---- modules without a text

-- the bytes spell a module
abbrev pub SpellsOne : (unchecked : Bool) → List ℕ → Type 0
SpellsOne unchecked bytes = (tree : Module) × IsRead unchecked bytes tree

abbrev pub IsFound : (unchecked : Bool) → List ℕ → Found → Type 0
IsFound unchecked bytes (found.Text text) = IsTextOf unchecked bytes (string_bytes text)
IsFound unchecked bytes found.TooLong = SpellsOne unchecked bytes
IsFound unchecked bytes found.Unwritten = SpellsOne unchecked bytes

-- `refused text N`
abbrev pub unwritten_line : ℕ → List ℕ
unwritten_line number = codes "refused text " ++ decimal number ++ 10 ∷ []

-- the bytes spell a module, and its text would be too long (1), or none was found (2)
pub record TellsUnwritten (unchecked : Bool) (bytes line : List ℕ) : Type 0 where
  pub one : SpellsOne unchecked bytes
  pub line_is : (line ≡ unwritten_line 1) ⊎ (line ≡ unwritten_line 2)

-- the line says why the bytes spell no valid module, as by `check`; unchecked, they spell none at all
pub record TellsUnread (unchecked : Bool) (bytes line : List ℕ) : Type 0 where
  pub tells : TellsNoModule bytes line
  pub none : unchecked ≡ true → NoModule bytes

-- ---- answers

abbrev pub IsAnswer : (unchecked json : Bool) → List ℕ → List ℕ → Answer → Type 0
IsAnswer unchecked json bytes target (Done writes line) = TellsText unchecked json bytes target (Done writes line)
IsAnswer unchecked json bytes target (Refused line why) = TellsUnread unchecked bytes (string_bytes line) ⊎ TellsUnwritten unchecked bytes (string_bytes line)

-- what is answered to the module in the file of a name, a refusal in the form that is asked for
pub record WritesText (unchecked json : Bool) (holds : Holding) (source target : List ℕ) (answer : Answer) : Type 0 where
  pub bytes : List ℕ
  pub held : holds source ≡ Some bytes
  pub plain : Answer
  pub answers : IsAnswer unchecked json bytes target plain
  pub told : IsInForm json plain answer
