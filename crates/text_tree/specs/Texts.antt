-- Texts, and when a refusal is right.
use Rattle.std.specs.Prelude.{◌≡◌, true, List, ◌∷◌}
use Rattle.spec_text.specs.Lexical.{Token}
use Rattle.spec_text.specs.declared.KeyWord.{KeyWord}
use Rattle.spec_text.specs.Words.{Word, Key, AreWords}
use Rattle.spec_text.specs.FieldsOfPlaces as N
use Rattle.spec_text.specs.Grammar.{FieldWords, Fields, IsModule}
use Rattle.text_tree.specs.Order.{in_order}

-- Behind the word of a field, the words go on as the field, up to its ).
abbrev pub OfField : KeyWord → List Word → List Word → N.Field → Type 0
OfField key before after f = FieldWords (Key key ∷ before) after f

-- the words are fields in the order of the rules, and the module's )
abbrev pub AreFields : List Word → List N.Field → Type 0
AreFields words fields = Fields words fields × (in_order fields ≡ true)

abbrev pub NoFields : List Word → Type 0
NoFields words = (fields : List N.Field) → AreFields words fields → ⊥

-- the words are ( module $id? field* ), with these fields in the order of the rules
abbrev pub IsTree : List Word → List N.Field → Type 0
IsTree words fields = IsModule words fields × (in_order fields ≡ true)

abbrev pub NoTree : List Word → Type 0
NoTree words = (fields : List N.Field) → IsTree words fields → ⊥

-- the tokens are words that are these fields
abbrev pub IsText : List Token → List N.Field → Type 0
IsText tokens fields = (words : List Word) × AreWords tokens words × IsTree words fields

abbrev pub NoText : List Token → Type 0
NoText tokens = (fields : List N.Field) → IsText tokens fields → ⊥

-- no tokens are two texts
abbrev pub TextsAreOne : Type 0
TextsAreOne = (tokens : List Token) (fs gs : List N.Field) → IsText tokens fs → IsText tokens gs → fs ≡ gs
