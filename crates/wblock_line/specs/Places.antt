-- What a sentence says of the place where a module breaks a rule.
use Rattle.std.specs.Prelude.{◌≡◌, ◌⊎◌, ℕ, List, ◌++◌, Some, None}
use Rattle.spec_modules.specs.Syntax as syntax
use Rattle.spec_modules.specs.Spells.{Spells}
use Rattle.typing_errors.specs.Sites.{TellsSite}
use Rattle.wblock_calls.specs.Sentences.{Begins}
use Rattle.wblock_words.specs.Sentences.{broken_place}
use Rattle.wblock_line.specs.declared.refusals.ModuleRefusal.{ModuleRefusal}
use Rattle.wblock_line.specs.declared.refusals.ModuleRefusal.TheVariants.{Malformed, Unsupported, TooLarge, Untyped, UnknownImport, ImportType, SegmentRange, TooManyPages, TableTooLarge}

-- the sentence begins with the function, and ends with what is said of the instruction of this ordinal in it
pub record TellsPlace (sentence : List ℕ) (m : syntax.Module) (func ordinal : ℕ) : Type 0 where
  pub front : List ℕ
  pub site : List ℕ
  pub begins : Begins (broken_place (Some func) ordinal) front
  pub tells : TellsSite site m func ordinal
  pub is : sentence ≡ front ++ site

-- of the module that the bytes spell; or the function alone is told
abbrev pub TellsRule : List ℕ → List ℕ → ℕ → ℕ → Type 0
TellsRule sentence bytes func ordinal = ((m : syntax.Module) × Spells bytes m × TellsPlace sentence m func ordinal) ⊎ Begins (broken_place (Some func) ordinal) sentence

-- what the sentence of a refusal says of these bytes
abbrev pub TellsRefusal : ModuleRefusal → List ℕ → List ℕ → Type 0
TellsRefusal (Untyped rule (Some func) ordinal) bytes sentence = TellsRule sentence bytes func ordinal
TellsRefusal (Untyped rule None ordinal) bytes sentence = Begins (broken_place None ordinal) sentence
TellsRefusal (Malformed at) bytes sentence = Unit {0}
TellsRefusal (Unsupported at) bytes sentence = Unit {0}
TellsRefusal (TooLarge limit) bytes sentence = Unit {0}
TellsRefusal (UnknownImport n) bytes sentence = Unit {0}
TellsRefusal (ImportType n) bytes sentence = Unit {0}
TellsRefusal (SegmentRange n) bytes sentence = Unit {0}
TellsRefusal TooManyPages bytes sentence = Unit {0}
TellsRefusal TableTooLarge bytes sentence = Unit {0}
