-- What the parts that fields share with bodies say of the words before and behind them.
use Rattle.std.specs.Prelude.{◌≡◌, List, ◌∷◌, Bool, true, false}
use Rattle.spec_text.specs.declared.KeyWord.{KeyWord}
use Rattle.spec_text.specs.Words.{Word, LeftBracket, RightBracket, Key}
use Rattle.spec_text.specs.FieldsOfPlaces as N
use Rattle.text_body.specs.declared.parts.Part.{Part}
use Rattle.text_body.specs.Reading.{key_of}
use Rattle.spec_text.specs.Grammar.{NotAhead, OptionalId, IsIndex, Indices, Bindings, Results, TypeUses}

-- idx
abbrev pub OneIndex : List Word → List Word → N.Index → Type 0
OneIndex before after i = (w : Word) × IsIndex w i × (before ≡ w ∷ after)

-- no words begin so
abbrev pub NoneOf : {X : Type 0} → (List Word → List Word → X → Type 0) → List Word → Type 0
NoneOf {X} P before = (after : List Word) (x : X) → P before after x → ⊥

-- no )
abbrev pub NotClosed : List Word → Type 0
NotClosed before = (after : List Word) → before ≡ RightBracket ∷ after → ⊥

-- ( and this word, or not
abbrev pub Entered : KeyWord → List Word → List Word → Bool → Type 0
Entered key before after true = before ≡ LeftBracket ∷ Key key ∷ after
Entered key before after false = NotAhead key before × (after ≡ before)

-- no words begin with two such parts
abbrev pub IsOne : {X : Type 0} → (List Word → List Word → X → Type 0) → Type 0
IsOne {X} P = (before after behind : List Word) (x y : X) → P before after x → P before behind y → (after ≡ behind) × (x ≡ y)

pub record SharedAreOne : Type 0 where
  pub ids : IsOne OptionalId
  pub one_index : IsOne OneIndex
  pub indices : IsOne Indices
  pub bindings : (p : Part) → IsOne (Bindings (key_of p))
  pub results : IsOne Results
  pub type_uses : IsOne TypeUses
