-- The sections of a module in memory, in three groups.
use Rattle.std.specs.Prelude.{ℕ, List, [], ◌∷◌, ◌++◌, Option}
use Rattle.wtypes.specs.declared.FuncType.{FuncType}
use Rattle.wtypes.specs.declared.Limits.{Limits}
use Rattle.spec_modules.specs.Shortest.{u32_bytes, func_type_bytes, import_bytes, table_type_bytes, limits_bytes, global_bytes, export_bytes, start_bytes, element_bytes, code_bytes, data_segment_bytes, list_section_bytes}
use Rattle.module_tree.specs.declared.module.Import.{Import}
use Rattle.module_tree.specs.declared.module.Export.{Export}
use Rattle.module_tree.specs.declared.module.Func.{Func}
use Rattle.module_tree.specs.declared.module.Global.{Global}
use Rattle.module_tree.specs.declared.module.Element.{Element}
use Rattle.module_tree.specs.declared.module.DataSegment.{DataSegment}
use Rattle.module_tree.specs.ModuleView.{func_type_view, import_view, func_view, limits_view, global_view, export_view, element_view, data_view}

-- the header, types, imports and the types of functions
abbrev pub head_bytes : {A : Type 0} → List (FuncType A) → List (Import A) → List (Func A) → List ℕ
head_bytes types imports funcs =
    (0x00 ∷ 0x61 ∷ 0x73 ∷ 0x6D ∷ 0x01 ∷ 0x00 ∷ 0x00 ∷ 0x00 ∷ [])
    ++ list_section_bytes 1 (λ t. func_type_bytes (func_type_view t)) types
    ++ list_section_bytes 2 (λ i. import_bytes (import_view i)) imports
    ++ list_section_bytes 3 (λ (f : Func _). u32_bytes f.type_index) funcs

-- tables, memories, globals and exports
abbrev pub middle_bytes : {A : Type 0} → List Limits → List Limits → List (Global A) → List (Export A) → List ℕ
middle_bytes tables memories globals exports =
    list_section_bytes 4 (λ l. table_type_bytes (limits_view l)) tables
    ++ list_section_bytes 5 (λ l. limits_bytes (limits_view l)) memories
    ++ list_section_bytes 6 (λ g. global_bytes (global_view g)) globals
    ++ list_section_bytes 7 (λ e. export_bytes (export_view e)) exports

-- the start function, element segments, bodies and data segments
abbrev pub tail_bytes : {A : Type 0} → Option ℕ → List (Element A) → List (Func A) → List (DataSegment A) → List ℕ
tail_bytes start elements funcs datas =
    start_bytes start
    ++ list_section_bytes 9 (λ e. element_bytes (element_view e)) elements
    ++ list_section_bytes 10 (λ f. code_bytes (func_view f)) funcs
    ++ list_section_bytes 11 (λ d. data_segment_bytes (data_view d)) datas
