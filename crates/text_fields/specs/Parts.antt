-- What fields make of a module, as it is resolved.
use Rattle.std.specs.Prelude.{ℕ, Bool, true, not, ◌&&◌, List, [], ◌∷◌, ◌++◌, map, Option, Some, None, is_some, option_map, option_and_then, cond, slice_get}
use Rattle.std.specs.List.{list_all}
use Rattle.wtypes.specs.declared.ValType.{ValType}
use Rattle.spec_modules.specs.Syntax as S
use Rattle.spec_modules.specs.Limits.{is_u32, expression_fits, limits_fit, import_fits, global_fits, export_fits, element_fits, data_fits}
use Rattle.spec_text.specs.FieldsOfBytes as N
use Rattle.spec_text.specs.Spaces.{Names, Spaces}
use Rattle.spec_text.specs.TypeUses.{names_of, types_of}
use Rattle.text_resolve.specs.Lookup.{find, u32_at, stands_at, all_stand_at}
use Rattle.text_resolve.specs.Types.{is_bare, use_at}
use Rattle.text_resolve.specs.Bodies.{Read, body_at}

-- what one field makes of a module
pub data FieldPart : Type 0 where
  NoPart : FieldPart
  ImportPart : S.Import → FieldPart
  -- with the exports that stand in the field
  FuncPart : S.Func → List S.Export → FieldPart
  TablePart : S.Limits → FieldPart
  MemoryPart : S.Limits → FieldPart
  GlobalPart : S.Global → FieldPart
  ExportPart : S.Export → FieldPart
  StartPart : ℕ → FieldPart
  ElementPart : S.Element → FieldPart
  DataPart : S.DataSegment → FieldPart

-- ---- expressions

abbrev pub whole : Read S.Instrs → Option S.Instrs
whole None = None
whole (Some (is, [])) = Some is
whole (Some (is, f ∷ fs)) = None

-- the instructions of an expression, which has 128 levels at most beside its own
unfoldable pub expression_at : Spaces → Names → List N.Flat → Option S.Instrs
expression_at s locals fs = whole (body_at s locals 129 [] fs)

-- ---- locals

abbrev pub distinct : Names → Bool
distinct [] = true
distinct (None ∷ ns) = distinct ns
distinct (Some id ∷ ns) = not (is_some (find id ns)) && distinct ns

-- names of which none stands twice
unfoldable pub distinct_at : Names → Option Names
distinct_at ns = cond (distinct ns) (Some ns) None

abbrev pub none_of : List ValType → Names
none_of params = map (λ _. None) params

abbrev pub unnamed : Option S.FuncType → Names
unnamed None = []
unnamed (Some t) = none_of t.params

abbrev pub named_by : List S.FuncType → N.TypeUse → ℕ → Option N.Index → Names
named_by types w n None = names_of w.params
named_by types w n (Some i) = cond (is_bare w) (unnamed (slice_get types n)) (names_of w.params)

-- the names of the parameters of the type of this number, which is written so
abbrev pub names_at : List S.FuncType → N.TypeUse → ℕ → Names
names_at types w n = named_by types w n w.index

-- ---- fields

abbrev pub limits : ℕ → Option ℕ → S.Limits
limits min max = record { min = min; max = max }

abbrev pub to_maximum : ℕ → Option (List ℕ) → Option S.Limits
to_maximum min None = Some (limits min None)
to_maximum min (Some text) = option_map (λ n. limits min (Some n)) (u32_at text)

abbrev pub bounds_at : N.Bounds → Option S.Limits
bounds_at b = option_and_then (λ min. to_maximum min b.max) (u32_at b.min)

abbrev pub desc_at : Spaces → N.Desc → Option S.ImportDesc
desc_at s (N.FuncDesc w) = option_map (λ i. S.ImportFunc i) (use_at s.type_names s.types w)
desc_at s (N.TableDesc b) = option_map (λ l. S.ImportTable l) (bounds_at b)
desc_at s (N.MemoryDesc b) = option_map (λ l. S.ImportMemory l) (bounds_at b)
desc_at s (N.GlobalDesc t) = Some (S.ImportGlobal t)

abbrev pub kind_at : Spaces → N.Kind → N.Index → Option S.ExportDesc
kind_at s N.OfFunc i = option_map (λ n. S.ExportFunc n) (stands_at s.funcs i)
kind_at s N.OfTable i = option_map (λ n. S.ExportTable n) (stands_at s.tables i)
kind_at s N.OfMemory i = option_map (λ n. S.ExportMemory n) (stands_at s.memories i)
kind_at s N.OfGlobal i = option_map (λ n. S.ExportGlobal n) (stands_at s.globals i)

abbrev pub exported : ℕ → List ℕ → S.Export
exported f item = record { name = item; desc = S.ExportFunc f }

abbrev pub import_at : Spaces → (from_module item : List ℕ) → N.Desc → Option S.Import
import_at s from_module item desc = option_map (λ d. record { from_module = from_module; name = item; desc = d }) (desc_at s desc)

abbrev pub func_with : ℕ → List N.Binding → S.Instrs → S.Func
func_with i locals body = record { type_index = i; locals = types_of locals; body = body }

abbrev pub func_at : Spaces → N.TypeUse → List N.Binding → List N.Flat → Option S.Func
func_at s w locals flats =
    option_and_then (λ i. option_and_then (λ names. option_map (func_with i locals) (expression_at s names flats)) (distinct_at (names_at s.types w i ++ names_of locals)))
    (use_at s.type_names s.types w)

abbrev pub global_at : Spaces → S.GlobalType → List N.Flat → Option S.Global
global_at s t flats = option_map (λ is. record { type = t; init = is }) (expression_at s [] flats)

abbrev pub export_at : Spaces → List ℕ → N.Kind → N.Index → Option S.Export
export_at s item kind i = option_map (λ d. record { name = item; desc = d }) (kind_at s kind i)

abbrev pub element_with : ℕ → S.Instrs → List ℕ → S.Element
element_with t offset ns = record { table = t; offset = offset; funcs = ns }

abbrev pub element_at : Spaces → N.Index → List N.Flat → List N.Index → Option S.Element
element_at s i flats is =
    option_and_then (λ t. option_and_then (λ offset. option_map (element_with t offset) (all_stand_at (stands_at s.funcs) is)) (expression_at s [] flats)) (stands_at s.tables i)

abbrev pub data_with : List ℕ → ℕ → S.Instrs → S.DataSegment
data_with bytes n offset = record { memory = n; offset = offset; bytes = bytes }

abbrev pub data_at : Spaces → N.Index → List N.Flat → List ℕ → Option S.DataSegment
data_at s i flats bytes = option_and_then (λ n. option_map (data_with bytes n) (expression_at s [] flats)) (stands_at s.memories i)

-- what a field makes of a module, where its function, if it defines one, has the number f
abbrev pub part_at : Spaces → ℕ → N.Field → Option FieldPart
part_at s f (N.TypeField name ps rs) = Some NoPart
part_at s f (N.ImportField m item name desc) = option_map (λ i. ImportPart i) (import_at s m item desc)
part_at s f (N.FuncField name items w locals body) = option_map (λ g. FuncPart g (map (exported f) items)) (func_at s w locals body)
part_at s f (N.TableField name b) = option_map (λ l. TablePart l) (bounds_at b)
part_at s f (N.MemoryField name b) = option_map (λ l. MemoryPart l) (bounds_at b)
part_at s f (N.GlobalField name t init) = option_map (λ g. GlobalPart g) (global_at s t init)
part_at s f (N.ExportField item kind i) = option_map (λ e. ExportPart e) (export_at s item kind i)
part_at s f (N.StartField i) = option_map (λ n. StartPart n) (stands_at s.funcs i)
part_at s f (N.ElemField i offset is) = option_map (λ e. ElementPart e) (element_at s i offset is)
part_at s f (N.DataField i offset bytes) = option_map (λ d. DataPart d) (data_at s i offset bytes)

-- ---- limits

-- the numbers of a function are in range, and its body within the limits
abbrev pub body_fits : S.Func → Bool
body_fits f = is_u32 f.type_index && expression_fits f.body

-- the numbers of a part are in range, and its expressions within the limits
abbrev pub part_fits : FieldPart → Bool
part_fits NoPart = true
part_fits (ImportPart i) = import_fits i
part_fits (FuncPart f exports) = body_fits f && list_all export_fits exports
part_fits (TablePart l) = limits_fit l
part_fits (MemoryPart l) = limits_fit l
part_fits (GlobalPart g) = global_fits g
part_fits (ExportPart e) = export_fits e
part_fits (StartPart n) = is_u32 n
part_fits (ElementPart e) = element_fits e
part_fits (DataPart d) = data_fits d
