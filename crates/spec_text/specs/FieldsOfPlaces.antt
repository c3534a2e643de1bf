-- The fields of a text, where a name or an integer comes with its place.
use Rattle.std.specs.Prelude.{List, map}
pub use Rattle.spec_text.specs.Forms.{Numbered, Named, Opener, Block, Loop, If, Simple, Indexed, BrTable, CallIndirect, Load, Store, Const, Opens, Else, End, Kind, OfFunc, OfTable, OfMemory, OfGlobal, FuncDesc, TableDesc, MemoryDesc, GlobalDesc, TypeField, ImportField, FuncField, TableField, MemoryField, GlobalField, ExportField, StartField, ElemField, DataField}
use Rattle.spec_text.specs.Forms as F
pub use Rattle.spec_text.specs.Words.{Placed}
use Rattle.spec_text.specs.FieldsOfBytes as N

abbrev pub Index : Type 0
Index = F.Index Placed

abbrev pub Binding : Type 0
Binding = F.Binding Placed

abbrev pub TypeUse : Type 0
TypeUse = F.TypeUse Placed

abbrev pub Flat : Type 0
Flat = F.Flat Placed

abbrev pub Bounds : Type 0
Bounds = F.Bounds Placed

abbrev pub Desc : Type 0
Desc = F.Desc Placed

abbrev pub Field : Type 0
Field = F.Field Placed

-- the fields without the places
abbrev pub without_places : List Field → List N.Field
without_places fields = map (F.field_by (λ p. p.text)) fields
