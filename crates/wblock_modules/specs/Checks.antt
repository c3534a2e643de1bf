-- What `check` answers.
use Rattle.std.specs.Prelude.{◌≡◌, ℕ, Bool, true, false, List, [], ◌∷◌, ◌++◌, Some, codes, decimal, length, string_bytes}
use Rattle.spec_modules.specs.Syntax.{Module}
use Rattle.wblock_json.specs.Json.{IsJson, IsLineOf}
use Rattle.wblock_io.specs.Holding.{Holding}
use Rattle.wblock_line.specs.declared.answer.Answer.{Answer}
use Rattle.wblock_line.specs.declared.answer.Answer.TheVariants.{Done, Refused}
use Rattle.wblock_line.specs.Modules.{IsValidOf}
use Rattle.wblock_line.specs.Refusals.{TellsNoModule}
use Rattle.wblock_line.specs.Forms.{IsInForm}
use Rattle.wblock_modules.specs.Objects.{valid_data}

-- the bytes spell a valid module that defines so many functions
pub record CountsFunctions (bytes : List ℕ) (count : ℕ) : Type 0 where
  pub tree : Module
  pub valid : IsValidOf bytes tree
  pub defined : length tree.funcs ≡ count

-- `valid N functions`
abbrev pub valid_line : ℕ → List ℕ
valid_line count = codes "valid " ++ decimal count ++ codes " functions" ++ 10 ∷ []

-- this line, or the same as JSON
abbrev pub IsValidText : (json : Bool) → (count : ℕ) → List ℕ → Type 0
IsValidText false count text = text ≡ valid_line count
IsValidText true count text = IsLineOf (IsJson (valid_data count)) text

pub record TellsFunctions (json : Bool) (bytes text : List ℕ) : Type 0 where
  pub count : ℕ
  pub counted : CountsFunctions bytes count
  pub text_is : IsValidText json count text

abbrev pub IsAnswer : (json : Bool) → List ℕ → Answer → Type 0
IsAnswer json bytes (Done writes text) = (writes.items ≡ []) × TellsFunctions json bytes (string_bytes text)
IsAnswer json bytes (Refused line why) = TellsNoModule bytes (string_bytes line)

-- what is answered to the file of a name, a refusal in the form that is asked for
pub record Checks (json : Bool) (holds : Holding) (target : List ℕ) (answer : Answer) : Type 0 where
  pub bytes : List ℕ
  pub held : holds target ≡ Some bytes
  pub plain : Answer
  pub answers : IsAnswer json bytes plain
  pub told : IsInForm json plain answer
