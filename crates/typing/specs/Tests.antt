-- The rules of a module as tests, in the order in which they are judged (Core Specification, 3.4 Modules).
use Rattle.std.specs.Prelude.{ℕ, Bool, true, false, not, ◌&&◌, nat_lt, nat_le, List, [], ◌∷◌, ◌++◌, Option, Some, None, length, slice_get, option_and_then}
use Rattle.std.specs.List.{list_all, list_any}
use Rattle.std.specs.Str.{bytes_eq}
use Rattle.wtypes.specs.declared.ValType.{ValType}
use Rattle.wtypes.specs.declared.ValType.TheVariants.{I32}
use Rattle.wtypes.specs.declared.PlainInstr.TheVariants.{GlobalGet, Const}
use Rattle.spec_modules.specs.Syntax.{Instrs, Plain, nothing, seq, FuncType, Limits, GlobalType, Name, Import, ImportDesc, ImportFunc, ImportTable, ImportMemory, ImportGlobal, Export, ExportDesc, ExportFunc, ExportTable, ExportMemory, ExportGlobal, Func, Global, Element, DataSegment, Module}
use Rattle.spec_modules.specs.Operators.{same_type, type_of}
use Rattle.spec_typing.specs.Principal.{passes}
use Rattle.spec_typing.specs.Modules.{Spaces, func_type_indices, tables, memories, imported_globals, globals, type_at, is_not_empty, result_of, spaces_of, context_of}

abbrev pub type_passes : FuncType → Bool
type_passes t = nat_le (length t.results) 1

-- ---- Limits

-- no maximum stands below the minimum
abbrev pub max_passes : ℕ → Option ℕ → Bool
max_passes min None = true
max_passes min (Some max) = nat_le min max

-- a maximum is at most this
abbrev pub max_within : ℕ → Option ℕ → Bool
max_within most None = true
max_within most (Some max) = nat_le max most

abbrev pub table_passes : Limits → Bool
table_passes l = max_passes l.min l.max

abbrev pub memory_passes : Limits → Bool
memory_passes l = max_passes l.min l.max && (nat_le l.min 65536 && max_within 65536 l.max)

-- these limits pass, and there is one of them at most, with one that is there before
abbrev pub at_most_one : (Limits → Bool) → Bool → List Limits → Bool
at_most_one passes there [] = true
at_most_one passes there (l ∷ ls) = not there && (passes l && at_most_one passes true ls)

-- ---- Imports, after others

-- whether a table is there with this import
abbrev pub with_table : Bool → ImportDesc → Bool
with_table there (ImportFunc index) = there
with_table there (ImportTable limits) = true
with_table there (ImportMemory limits) = there
with_table there (ImportGlobal type) = there

abbrev pub with_memory : Bool → ImportDesc → Bool
with_memory there (ImportFunc index) = there
with_memory there (ImportTable limits) = there
with_memory there (ImportMemory limits) = true
with_memory there (ImportGlobal type) = there

-- in a module of so many types, after imports of a table, of a memory
abbrev pub import_passes : ℕ → Bool → Bool → ImportDesc → Bool
import_passes types table memory (ImportFunc index) = nat_lt index types
import_passes types table memory (ImportTable limits) = not table && table_passes limits
import_passes types table memory (ImportMemory limits) = not memory && memory_passes limits
import_passes types table memory (ImportGlobal type) = true

abbrev pub imports_pass : ℕ → Bool → Bool → List Import → Bool
imports_pass types table memory [] = true
imports_pass types table memory (i ∷ is) = import_passes types table memory i.desc && imports_pass types (with_table table i.desc) (with_memory memory i.desc) is

abbrev pub any_table : Bool → List Import → Bool
any_table there [] = there
any_table there (i ∷ is) = any_table (with_table there i.desc) is

abbrev pub any_memory : Bool → List Import → Bool
any_memory there [] = there
any_memory there (i ∷ is) = any_memory (with_memory there i.desc) is

-- ---- What a module defines

abbrev pub func_passes : ℕ → Func → Bool
func_passes types f = nat_lt f.type_index types

-- a constant global of this type
abbrev pub is_constant : ValType → Option GlobalType → Bool
is_constant t None = false
is_constant t (Some g) = same_type g.type t && not g.is_mutable

abbrev pub constant_passes : List GlobalType → Instrs → ValType → Bool
constant_passes imported (seq (Plain (Const v)) nothing) t = same_type (type_of v) t
constant_passes imported (seq (Plain (GlobalGet index)) nothing) t = is_constant t (slice_get imported index)
constant_passes imported _ t = false

abbrev pub global_passes : List GlobalType → Global → Bool
global_passes imported g = constant_passes imported g.init g.type.type

-- in a module of so many tables and functions, with these imported globals
abbrev pub element_passes : ℕ → ℕ → List GlobalType → Element → Bool
element_passes tables funcs imported e = nat_lt e.table tables && (constant_passes imported e.offset I32 && list_all (λ f. nat_lt f funcs) e.funcs)

abbrev pub data_passes : ℕ → List GlobalType → DataSegment → Bool
data_passes memories imported d = nat_lt d.memory memories && constant_passes imported d.offset I32

-- takes nothing and gives nothing
abbrev pub takes_nothing : Option FuncType → Bool
takes_nothing None = false
takes_nothing (Some t) = not (is_not_empty t.params) && not (is_not_empty t.results)

-- with these types, and functions of these type indices
abbrev pub start_passes : List FuncType → List ℕ → Option ℕ → Bool
start_passes types funcs None = true
start_passes types funcs (Some f) = takes_nothing (option_and_then (slice_get types) (slice_get funcs f))

-- ---- Exports, in a module of so many functions, tables, memories and globals

abbrev pub export_passes : ℕ → ℕ → ℕ → ℕ → ExportDesc → Bool
export_passes funcs tables memories globals (ExportFunc index) = nat_lt index funcs
export_passes funcs tables memories globals (ExportTable index) = nat_lt index tables
export_passes funcs tables memories globals (ExportMemory index) = nat_lt index memories
export_passes funcs tables memories globals (ExportGlobal index) = nat_lt index globals

-- no export has one of these names, or that of an earlier one
abbrev pub exports_pass : (ExportDesc → Bool) → List Name → List Export → Bool
exports_pass there earlier [] = true
exports_pass there earlier (e ∷ es) = not (list_any (λ n. bytes_eq n e.name) earlier) && (there e.desc && exports_pass there (earlier ++ e.name ∷ []) es)

-- ---- Bodies, and the whole

abbrev pub body_passes : Spaces → Func → Bool
body_passes spaces f = let type = type_at spaces.types f.type_index in passes (context_of spaces type f.locals) (result_of type.results) f.body

-- types, imports, functions' types, tables and memories
abbrev pub heads_pass : Module → Bool
heads_pass m =
    list_all type_passes m.types
    && (imports_pass (length m.types) false false m.imports
    && (list_all (func_passes (length m.types)) m.funcs
    && (at_most_one table_passes (any_table false m.imports) m.tables
    && at_most_one memory_passes (any_memory false m.imports) m.memories)))

-- globals, segments, the start function and exports
abbrev pub uses_pass : Module → Bool
uses_pass m =
    list_all (global_passes (imported_globals m)) m.globals
    && (list_all (element_passes (length (tables m)) (length (func_type_indices m)) (imported_globals m)) m.elements
    && (list_all (data_passes (length (memories m)) (imported_globals m)) m.datas
    && (start_passes m.types (func_type_indices m) m.start
    && exports_pass (export_passes (length (func_type_indices m)) (length (tables m)) (length (memories m)) (length (globals m))) [] m.exports)))

abbrev pub module_passes : Module → Bool
module_passes m = heads_pass m && (uses_pass m && list_all (body_passes (spaces_of m)) m.funcs)
