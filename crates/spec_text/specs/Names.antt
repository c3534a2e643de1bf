-- The modules that texts name.
use Rattle.std.specs.Prelude.{◌≡◌, ℕ, ◌≤◌, List, length}
use Rattle.spec_modules.specs.Syntax.{Module}
use Rattle.spec_modules.specs.Profile.{byte_limit}
use Rattle.spec_modules.specs.Spells.{ModuleFits}
use Rattle.spec_text.specs.Lexical.{Token, Lexes}
use Rattle.spec_text.specs.Words.{Word, AreWords}
use Rattle.spec_text.specs.FieldsOfPlaces.{Field, without_places}
use Rattle.spec_text.specs.Grammar.{IsModule}
use Rattle.spec_text.specs.Fields.{Resolves}

-- The text lexes to tokens, whose words are fields, which make the module.
pub record Spelled (text : List ℕ) (m : Module) : Type 0 where
  pub tokens : List Token
  pub words : List Word
  pub fields : List Field
  pub lexes : Lexes text tokens
  pub are_words : AreWords tokens words
  pub grammar : IsModule words fields
  pub resolves : Resolves (without_places fields) m

-- The same, with text and module within the limits.
pub record Names (text : List ℕ) (m : Module) : Type 0 where
  pub text_fits : length text ≤ byte_limit
  pub spelled : Spelled text m
  pub tree_fits : ModuleFits m

-- no text names two modules
abbrev pub NamesOne : Type 0
NamesOne = (text : List ℕ) (m n : Module) → Names text m → Names text n → m ≡ n
