-- What `asm` answers.
use Rattle.std.specs.Prelude.{◌≡◌, ℕ, Bool, List, [], ◌∷◌, ◌++◌, Option, Some, None, codes, decimal, string_bytes}
use Rattle.spec_modules.specs.Syntax.{Module}
use Rattle.spec_modules.specs.Shortest.{shortest}
use Rattle.spec_modules.specs.Spells.{Spells}
use Rattle.spec_text.specs.Names.{Names}
use Rattle.lexer.specs.declared.LexRefusal.TheVariants as lexical
use Rattle.module_tree.specs.LimitNumbers.{number_of}
use Rattle.text_resolve.specs.declared.refusal.AsmRefusal.{AsmRefusal}
use Rattle.text_resolve.specs.declared.refusal.AsmRefusal.TheVariants.{Lex, Unexpected, UnknownName, RepeatedName, NumberRange, TooLarge, NoMemory}
use Rattle.assembler.specs.NamedModules.{NamesNothing, IsWhy}
use Rattle.wblock_io.specs.Holding.{Holding}
use Rattle.wblock_line.specs.declared.answer.Answer.{Answer}
use Rattle.wblock_line.specs.declared.answer.Answer.TheVariants.{Done, Refused}
use Rattle.wblock_line.specs.Answers.{IsCounted}
use Rattle.wblock_line.specs.Forms.{IsInForm}

-- ---- refusals

-- the number of a refusal, and its place or the number of the limit that is passed; none for lack of memory
abbrev pub told : AsmRefusal → Option (ℕ × ℕ)
told (Lex (lexical.BadToken at)) = Some (1, at)
told (Lex (lexical.Unclosed at)) = Some (1, at)
told (Lex lexical.NoMemory) = None
told (Unexpected at) = Some (2, at)
told (UnknownName at) = Some (3, at)
told (RepeatedName at) = Some (4, at)
told (NumberRange at) = Some (5, at)
told (TooLarge limit) = Some (6, number_of limit)
told NoMemory = None

-- `refused assemble N P`
abbrev pub refusal_line : ℕ → ℕ → List ℕ
refusal_line number place = codes "refused assemble " ++ (decimal number ++ (codes " " ++ (decimal place ++ 10 ∷ [])))

-- the line is that of a refusal
pub record IsLineOf (refusal : AsmRefusal) (line : List ℕ) : Type 0 where
  pub number : ℕ
  pub place : ℕ
  pub told_as : told refusal ≡ Some (number, place)
  pub line_is : line ≡ refusal_line number place

abbrev pub IsRefusalOf : AsmRefusal → Answer → Type 0
IsRefusalOf refusal (Done writes text) = ⊥
IsRefusalOf refusal (Refused line why) = IsLineOf refusal (string_bytes line)

-- the bytes name no module, and the line is that of a refusal which says where their reading fails: at the tokens, at the grammar, or at what
-- the fields make
pub record TellsRefusal (bytes line : List ℕ) : Type 0 where
  pub names_nothing : NamesNothing bytes
  pub refusal : AsmRefusal
  pub why : IsWhy bytes refusal
  pub is_line : IsLineOf refusal line

-- ---- modules

-- the bytes are the shortest spelling of the module that the text names
pub record IsSpelled (text bytes : List ℕ) : Type 0 where
  pub tree : Module
  pub names : Names text tree
  pub spells : Spells bytes tree
  pub is_shortest : bytes ≡ shortest tree

-- the file is to hold the module that the text names
pub record TellsModule (json : Bool) (text target : List ℕ) (a : Answer) : Type 0 where
  pub bytes : List ℕ
  pub spelled : IsSpelled text bytes
  pub is_done : IsCounted json (codes "assembled") target bytes a

-- ---- answers

abbrev pub IsAnswer : (json : Bool) → List ℕ → List ℕ → Answer → Type 0
IsAnswer json text target (Done writes line) = TellsModule json text target (Done writes line)
IsAnswer json text target (Refused line why) = TellsRefusal text (string_bytes line)

-- what is answered to the text in the file of a name, a refusal in the form that is asked for
pub record Assembles (json : Bool) (holds : Holding) (text target : List ℕ) (answer : Answer) : Type 0 where
  pub bytes : List ℕ
  pub held : holds text ≡ Some bytes
  pub plain : Answer
  pub answers : IsAnswer json bytes target plain
  pub told : IsInForm json plain answer
