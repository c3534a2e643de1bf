-- The names of index spaces, as they are listed.
use Rattle.std.specs.Prelude.{◌≡◌, List, [], ◌∷◌, Option, Some, None}
use Rattle.lexer.specs.declared.word.Piece.{Piece}
use Rattle.spec_text.specs.FieldsOfBytes.{Field}
use Rattle.spec_text.specs.Spaces.{Names, Spaces}
use Rattle.spec_text.specs.Fields.{AreSpaces, type_name, func_name, table_name, memory_name, global_name}
use Rattle.text_body.specs.Views.{text_of}
use Rattle.text_fields.specs.declared.spaces.Sort.{Sort}
use Rattle.text_fields.specs.declared.spaces.Sort.TheVariants as sort

abbrev pub listed : Option (Option Piece) → Names
listed None = []
listed (Some name) = text_of name ∷ []

-- the name that a field puts into the space of a sort
abbrev pub names_in : Sort → Field → Names
names_in sort.Types = type_name
names_in sort.Funcs = func_name
names_in sort.Tables = table_name
names_in sort.Memories = memory_name
names_in sort.Globals = global_name

-- in some space a name stands twice
abbrev pub NoSpaces : List Field → Type 0
NoSpaces fields = (s : Spaces) → AreSpaces fields s → ⊥

-- no fields have two lists of spaces
abbrev pub SpacesAreOne : Type 0
SpacesAreOne = (fields : List Field) (s t : Spaces) → AreSpaces fields s → AreSpaces fields t → s ≡ t
