-- What contracts see of the part of a module that a field makes.
use Rattle.std.specs.Prelude.{Bool, true, map}
use Rattle.spec_modules.specs.Limits.{counts_from}
use Rattle.module_tree.specs.ModuleView.{import_view, func_view, limits_view, global_view, export_view, element_view, data_view, func_ordinals, global_ordinals, element_ordinals, data_ordinals}
use Rattle.text_fields.specs.declared.part.Part.{Part}
use Rattle.text_fields.specs.declared.part.Part.TheVariants as part
use Rattle.text_fields.specs.Parts.{FieldPart, NoPart, ImportPart, FuncPart, TablePart, MemoryPart, GlobalPart, ExportPart, StartPart, ElementPart, DataPart}

abbrev pub part_view : {A : Type 0} → Part A → FieldPart
part_view part.Nothing = NoPart
part_view (part.Import i) = ImportPart (import_view i)
part_view (part.Func f exports) = FuncPart (func_view f) (map export_view exports.items)
part_view (part.Table l) = TablePart (limits_view l)
part_view (part.Memory l) = MemoryPart (limits_view l)
part_view (part.Global g) = GlobalPart (global_view g)
part_view (part.Export e) = ExportPart (export_view e)
part_view (part.Start n) = StartPart n
part_view (part.Element e) = ElementPart (element_view e)
part_view (part.Data d) = DataPart (data_view d)

-- the ordinals of its expression rise by one from 0
abbrev pub is_numbered : {A : Type 0} → Part A → Bool
is_numbered (part.Func f exports) = counts_from 0 (func_ordinals f)
is_numbered (part.Global g) = counts_from 0 (global_ordinals g)
is_numbered (part.Element e) = counts_from 0 (element_ordinals e)
is_numbered (part.Data d) = counts_from 0 (data_ordinals d)
is_numbered p = true
