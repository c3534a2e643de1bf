-- What contracts see of fields, with each name and each integer at its place.
use Rattle.std.specs.Prelude.{ℕ, List, map, Option, string_bytes}
use Rattle.spec_text.specs.FieldsOfPlaces as N
use Rattle.module_tree.specs.ModuleView.{global_type_view}
use Rattle.lexer.specs.WordsViews.{placed}
use Rattle.text_body.specs.Places.{text_of, index_of, binding_of, use_of, flats_of}
use Rattle.text_tree.specs.declared.field.Bounds.{Bounds}
pub use Rattle.text_tree.specs.Views.{kind_of}
use Rattle.text_tree.specs.declared.field.Desc.{Desc}
use Rattle.text_tree.specs.declared.field.Desc.TheVariants as desc
use Rattle.text_tree.specs.declared.field.Field.{Field}
use Rattle.text_tree.specs.declared.field.Field.TheVariants as field
use Rattle.text_tree.specs.declared.field.Text.{Text}
use Rattle.text_tree.specs.declared.parts.Head.{Head}

abbrev pub bounds_of : Bounds → N.Bounds
bounds_of b = record { min = placed b.min; max = text_of b.max }

abbrev pub desc_of : {A : Type 0} → Desc A → N.Desc
desc_of (desc.Func u) = N.FuncDesc (use_of u)
desc_of (desc.Table b) = N.TableDesc (bounds_of b)
desc_of (desc.Memory b) = N.MemoryDesc (bounds_of b)
desc_of (desc.Global t) = N.GlobalDesc (global_type_view t)

-- what stands before the instructions of a function
abbrev pub head_of : {A : Type 0} → Head A → Option N.Placed × (List (List ℕ) × (N.TypeUse × List N.Binding))
head_of h = (text_of h.name, (map string_bytes h.exports.items, (use_of h.written, map binding_of h.locals.items)))

abbrev pub field_of : {A : Type 0} → Field A → N.Field
field_of (field.Type f) = N.TypeField (text_of f.name) (map binding_of f.params.items) f.results.items
field_of (field.Import f) = N.ImportField (string_bytes f.from_module) (string_bytes f.item) (text_of f.name) (desc_of f.desc)
field_of (field.Func f) = N.FuncField (text_of f.name) (map string_bytes f.exports.items) (use_of f.written) (map binding_of f.locals.items) (flats_of f.body.items)
field_of (field.Table f) = N.TableField (text_of f.name) (bounds_of f.bounds)
field_of (field.Memory f) = N.MemoryField (text_of f.name) (bounds_of f.bounds)
field_of (field.Global f) = N.GlobalField (text_of f.name) (global_type_view f.global_type) (flats_of f.init.items)
field_of (field.Export f) = N.ExportField (string_bytes f.item) (kind_of f.kind) (index_of f.index)
field_of (field.Start i) = N.StartField (index_of i)
field_of (field.Elem f) = N.ElemField (index_of f.table) (flats_of f.offset.items) (map index_of f.funcs.items)
field_of (field.Data f) = N.DataField (index_of f.memory) (flats_of f.offset.items) f.bytes.items

abbrev pub fields_of : {A : Type 0} → Text A → List N.Field
fields_of t = map field_of t.fields.items
