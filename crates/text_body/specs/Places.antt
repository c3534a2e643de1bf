-- What contracts see of flat instructions, with each name and each integer at its place.
use Rattle.std.specs.Prelude.{List, map, Option, option_map}
use Rattle.lexer.specs.declared.word.Piece.{Piece}
use Rattle.lexer.specs.WordsViews.{placed}
use Rattle.spec_text.specs.FieldsOfPlaces as N
use Rattle.text_body.specs.declared.flat.Index.{Index}
use Rattle.text_body.specs.declared.flat.Index.TheVariants as index
use Rattle.text_body.specs.declared.flat.Binding.{Binding}
use Rattle.text_body.specs.declared.flat.TypeUse.{TypeUse}
pub use Rattle.text_body.specs.Views.{opener_of}
use Rattle.text_body.specs.declared.flat.Flat.{Flat}
use Rattle.text_body.specs.declared.flat.Flat.TheVariants as flat

-- a part that may be there
abbrev pub text_of : Option Piece → Option N.Placed
text_of piece = option_map placed piece

abbrev pub index_of : Index → N.Index
index_of (index.Numbered piece) = N.Numbered (placed piece)
index_of (index.Named piece) = N.Named (placed piece)

abbrev pub binding_of : Binding → N.Binding
binding_of b = record { name = text_of b.name; type = b.value_type }

abbrev pub use_of : {A : Type 0} → TypeUse A → N.TypeUse
use_of u = record { index = option_map index_of u.index; params = map binding_of u.params.items; results = u.results.items }

abbrev pub flat_of : {A : Type 0} → Flat A → N.Flat
flat_of (flat.Simple op) = N.Simple op
flat_of (flat.Indexed op i) = N.Indexed op (index_of i)
flat_of (flat.BrTable is last) = N.BrTable (map index_of is.items) (index_of last)
flat_of (flat.CallIndirect u) = N.CallIndirect (use_of u)
flat_of (flat.Load op offset align) = N.Load op (text_of offset) (text_of align)
flat_of (flat.Store op offset align) = N.Store op (text_of offset) (text_of align)
flat_of (flat.Const t piece) = N.Const t (placed piece)
flat_of (flat.Opens o label result) = N.Opens (opener_of o) (text_of label) result
flat_of (flat.Else label) = N.Else (text_of label)
flat_of (flat.End label) = N.End (text_of label)

abbrev pub flats_of : {A : Type 0} → List (Flat A) → List N.Flat
flats_of fs = map flat_of fs
