-- Bodies, and when a refusal is right.
use Rattle.std.specs.Prelude.{◌≡◌, List, [], ◌∷◌}
use Rattle.spec_text.specs.Words.{Word, RightBracket}
use Rattle.spec_text.specs.FieldsOfPlaces as N
use Rattle.spec_text.specs.Grammar.{Instrs}

-- instructions up to a ), and what follows it
abbrev pub IsBody : List Word → List Word → List N.Flat → Type 0
IsBody words after flats = Instrs words (RightBracket ∷ after) flats []

-- the words do not begin with a body
abbrev pub NoBody : List Word → Type 0
NoBody words = (after : List Word) (flats : List N.Flat) → IsBody words after flats → ⊥

-- no words begin with two bodies
abbrev pub BodiesAreOne : Type 0
BodiesAreOne = (words vs us : List Word) (fs gs : List N.Flat) → IsBody words vs fs → IsBody words us gs → (vs ≡ us) × (fs ≡ gs)
