-- Texts that name a module, and texts that name none.
use Rattle.std.specs.Prelude.{List, ℕ}
use Rattle.spec_modules.specs.Syntax.{Module}
use Rattle.spec_modules.specs.Spells.{ModuleFits}
use Rattle.spec_text.specs.Lexical.{Token, Lexes}
use Rattle.spec_text.specs.FieldsOfBytes.{Field}
use Rattle.spec_text.specs.FieldsOfPlaces as P
use Rattle.spec_text.specs.Fields.{Resolves}
use Rattle.spec_text.specs.Names.{Names}
use Rattle.text_tree.specs.Texts.{IsText, NoText}
use Rattle.text_resolve.specs.declared.refusal.AsmRefusal.{AsmRefusal}
use Rattle.text_resolve.specs.declared.refusal.AsmRefusal.TheVariants.{Lex, Unexpected, UnknownName, RepeatedName, NumberRange, TooLarge, NoMemory}

abbrev pub NamesNothing : List ℕ → Type 0
NamesNothing text = (m : Module) → Names text m → ⊥

abbrev pub LexesToNothing : List ℕ → Type 0
LexesToNothing text = (tokens : List Token) → Lexes text tokens → ⊥

-- the text lexes to tokens that are these fields, and it names what they make
pub record HasFields (text : List ℕ) (fields : List P.Field) : Type 0 where
  pub tokens : List Token
  pub lexes : Lexes text tokens
  pub is_text : IsText tokens fields
  pub only : (m : Module) → Names text m → Resolves (P.without_places fields) m

-- the fields make no module within the limits
abbrev pub ResolveToNothing : List Field → Type 0
ResolveToNothing fields = (m : Module) → Resolves fields m → ModuleFits m → ⊥

-- the text lexes, to tokens that are the words of no fields
pub record HasNoFields (text : List ℕ) : Type 0 where
  pub tokens : List Token
  pub lexes : Lexes text tokens
  pub no_text : NoText tokens

-- the text has fields, and names nothing
pub record MakesNothing (text : List ℕ) : Type 0 where
  pub fields : List P.Field
  pub has : HasFields text fields
  pub names_nothing : NamesNothing text

-- what a refusal says of the text: at its tokens, at its grammar, or at what its fields make
abbrev pub IsWhy : List ℕ → AsmRefusal → Type 0
IsWhy text (Lex refusal) = LexesToNothing text
IsWhy text (Unexpected at) = HasNoFields text
IsWhy text (UnknownName at) = MakesNothing text
IsWhy text (RepeatedName at) = MakesNothing text
IsWhy text (NumberRange at) = MakesNothing text
IsWhy text (TooLarge limit) = MakesNothing text
IsWhy text NoMemory = Unit {0}
