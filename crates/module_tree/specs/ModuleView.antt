-- The abstract syntax that the parts of a module in memory stand for.
use Rattle.std.specs.Prelude.{ℕ, List, map, Option, Bool, ◌&&◌, string_bytes}
use Rattle.std.specs.List.{list_all}
use Rattle.wtypes.specs.declared.FuncType.{FuncType}
use Rattle.wtypes.specs.declared.Limits.{Limits}
use Rattle.spec_modules.specs.Syntax as syntax
use Rattle.spec_modules.specs.Limits.{counts_from}
use Rattle.module_tree.specs.declared.module.GlobalType.{GlobalType}
use Rattle.module_tree.specs.declared.module.ImportDesc.{ImportDesc}
use Rattle.module_tree.specs.declared.module.ImportDesc.TheVariants as import_desc
use Rattle.module_tree.specs.declared.module.ExportDesc.{ExportDesc}
use Rattle.module_tree.specs.declared.module.ExportDesc.TheVariants as export_desc
use Rattle.module_tree.specs.declared.module.Import.{Import}
use Rattle.module_tree.specs.declared.module.Export.{Export}
use Rattle.module_tree.specs.declared.module.Func.{Func}
use Rattle.module_tree.specs.declared.module.Global.{Global}
use Rattle.module_tree.specs.declared.module.Element.{Element}
use Rattle.module_tree.specs.declared.module.DataSegment.{DataSegment}
use Rattle.module_tree.specs.View.{instrs_view, ordinals}

abbrev pub func_type_view : {A : Type 0} → FuncType A → syntax.FuncType
func_type_view t = record { params = t.params.items; results = t.results.items }

abbrev pub limits_view : Limits → syntax.Limits
limits_view l = record { min = l.min; max = l.max }

abbrev pub global_type_view : GlobalType → syntax.GlobalType
global_type_view g = record { type = g.value_type; is_mutable = g.is_mutable }

abbrev pub import_desc_view : ImportDesc → syntax.ImportDesc
import_desc_view (import_desc.Func t) = syntax.ImportFunc t
import_desc_view (import_desc.Table l) = syntax.ImportTable (limits_view l)
import_desc_view (import_desc.Memory l) = syntax.ImportMemory (limits_view l)
import_desc_view (import_desc.Global g) = syntax.ImportGlobal (global_type_view g)

abbrev pub import_view : {A : Type 0} → Import A → syntax.Import
import_view i = record { from_module = string_bytes i.from_module; name = string_bytes i.name; desc = import_desc_view i.desc }

abbrev pub func_view : {A : Type 0} → Func A → syntax.Func
func_view f = record { type_index = f.type_index; locals = f.locals.items; body = instrs_view f.body.items }

abbrev pub global_view : {A : Type 0} → Global A → syntax.Global
global_view g = record { type = global_type_view g.global_type; init = instrs_view g.init.items }

abbrev pub export_desc_view : ExportDesc → syntax.ExportDesc
export_desc_view (export_desc.Func x) = syntax.ExportFunc x
export_desc_view (export_desc.Table x) = syntax.ExportTable x
export_desc_view (export_desc.Memory x) = syntax.ExportMemory x
export_desc_view (export_desc.Global x) = syntax.ExportGlobal x

abbrev pub export_view : {A : Type 0} → Export A → syntax.Export
export_view e = record { name = string_bytes e.name; desc = export_desc_view e.desc }

abbrev pub element_view : {A : Type 0} → Element A → syntax.Element
element_view e = record { table = e.table; offset = instrs_view e.offset.items; funcs = e.funcs.items }

abbrev pub data_view : {A : Type 0} → DataSegment A → syntax.DataSegment
data_view d = record { memory = d.memory; offset = instrs_view d.offset.items; bytes = d.bytes.items }

abbrev pub module_of : {A : Type 0} → List (FuncType A) → List (Import A) → List (Func A) → List Limits → List Limits → List (Global A)
    → List (Export A) → Option ℕ → List (Element A) → List (DataSegment A) → syntax.Module
module_of types imports funcs tables memories globals exports start elements datas = record {
  types = map func_type_view types;
  imports = map import_view imports;
  funcs = map func_view funcs;
  tables = map limits_view tables;
  memories = map limits_view memories;
  globals = map global_view globals;
  exports = map export_view exports;
  start = start;
  elements = map element_view elements;
  datas = map data_view datas;
}

-- ---- Ordinals

abbrev pub func_ordinals : {A : Type 0} → Func A → List ℕ
func_ordinals f = ordinals f.body.items

abbrev pub global_ordinals : {A : Type 0} → Global A → List ℕ
global_ordinals g = ordinals g.init.items

abbrev pub element_ordinals : {A : Type 0} → Element A → List ℕ
element_ordinals e = ordinals e.offset.items

abbrev pub data_ordinals : {A : Type 0} → DataSegment A → List ℕ
data_ordinals d = ordinals d.offset.items

-- in each list the ordinals rise by one from 0
abbrev pub all_numbered : List (List ℕ) → Bool
all_numbered lists = list_all (counts_from 0) lists

-- the ordinals of each expression do
abbrev pub are_numbered : {A : Type 0} → List (Func A) → List (Global A) → List (Element A) → List (DataSegment A) → Bool
are_numbered funcs globals elements datas =
    all_numbered (map func_ordinals funcs) && (all_numbered (map global_ordinals globals)
    && (all_numbered (map element_ordinals elements) && all_numbered (map data_ordinals datas)))
