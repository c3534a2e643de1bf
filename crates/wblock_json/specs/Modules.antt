-- A module as JSON.
use Rattle.std.specs.Prelude.{ℕ, Option, List, [], ◌∷◌, codes, length, map, slice_get}
use Rattle.serde_json.specs.Data.{Data, boolean, string}
use Rattle.wtypes.specs.declared.ValType.{ValType}
use Rattle.spec_modules.specs.Syntax.{Name, FuncType, Limits, GlobalType, ImportDesc, ImportFunc, ImportTable, ImportMemory, ImportGlobal, ExportDesc, ExportFunc, ExportTable, ExportMemory, ExportGlobal, Import, Export, Func, Global, Module}
use Rattle.spec_modules.specs.Shape.{size}
use Rattle.spec_typing.specs.Modules.{type_at, func_type_indices, tables, memories, globals, imported_globals}
use Rattle.module_tree.specs.Readers.{imported_funcs}
use Rattle.figures.specs.Names.{type_name}
use Rattle.wblock_words.specs.Names.{AreNamesOf, Named, name_among}
use Rattle.wblock_json.specs.Json.{IsJson, array_of, maybe, numbered, object_of, small}

-- ---- types

abbrev pub type_data : ValType → Data
type_data type = string (type_name type)

unfoldable pub func_type_data : FuncType → Data
func_type_data t =
    object_of
    ((codes "params", array_of (map type_data t.params))
    ∷ (codes "results", array_of (map type_data t.results))
    ∷ [])

unfoldable pub limits_data : Limits → Data
limits_data l = object_of ((codes "min", small l.min) ∷ (codes "max", maybe small l.max) ∷ [])

unfoldable pub global_type_data : GlobalType → Data
global_type_data g = object_of ((codes "value", type_data g.type) ∷ (codes "mutable", boolean g.is_mutable) ∷ [])

-- ---- imports

abbrev pub import_word : ImportDesc → List ℕ
import_word (ImportFunc index) = codes "func"
import_word (ImportTable l) = codes "table"
import_word (ImportMemory l) = codes "memory"
import_word (ImportGlobal g) = codes "global"

abbrev pub import_type : List FuncType → ImportDesc → Data
import_type types (ImportFunc index) = func_type_data (type_at types index)
import_type types (ImportTable l) = limits_data l
import_type types (ImportMemory l) = limits_data l
import_type types (ImportGlobal g) = global_type_data g

unfoldable pub import_data : List FuncType → Import → Data
import_data types i =
    object_of
    ((codes "module", string i.from_module)
    ∷ (codes "name", string i.name)
    ∷ (codes "kind", string (import_word i.desc))
    ∷ (codes "type", import_type types i.desc)
    ∷ [])

-- ---- exports

abbrev pub export_word : ExportDesc → List ℕ
export_word (ExportFunc x) = codes "func"
export_word (ExportTable x) = codes "table"
export_word (ExportMemory x) = codes "memory"
export_word (ExportGlobal x) = codes "global"

abbrev pub export_index : ExportDesc → ℕ
export_index (ExportFunc x) = x
export_index (ExportTable x) = x
export_index (ExportMemory x) = x
export_index (ExportGlobal x) = x

-- the type of what stands at its index, imports counted first
abbrev pub export_type : Module → ExportDesc → Data
export_type m (ExportFunc x) = maybe (λ index. func_type_data (type_at m.types index)) (slice_get (func_type_indices m) x)
export_type m (ExportTable x) = maybe limits_data (slice_get (tables m) x)
export_type m (ExportMemory x) = maybe limits_data (slice_get (memories m) x)
export_type m (ExportGlobal x) = maybe global_type_data (slice_get (globals m) x)

unfoldable pub export_data : Module → Export → Data
export_data m e =
    object_of
    ((codes "name", string e.name)
    ∷ (codes "kind", string (export_word e.desc))
    ∷ (codes "index", small (export_index e.desc))
    ∷ (codes "type", export_type m e.desc)
    ∷ [])

-- ---- what a module defines

-- a function, with how many locals it declares, how many instructions of all depths it has, and its name, if any
unfoldable pub func_data : List FuncType → Option Name → ℕ → Func → Data
func_data types called n f =
    object_of
    ((codes "index", small n)
    ∷ (codes "type", func_type_data (type_at types f.type_index))
    ∷ (codes "locals", small (length f.locals))
    ∷ (codes "instructions", small (size f.body))
    ∷ (codes "name", maybe string called)
    ∷ [])

-- by its name among these
abbrev pub named_func_data : List FuncType → List Named → ℕ → Func → Data
named_func_data types names n f = func_data types (name_among names n) n f

unfoldable pub global_data : ℕ → Global → Data
global_data n g = object_of ((codes "index", small n) ∷ (codes "type", global_type_data g.type) ∷ [])

-- ---- modules

-- what is told of a module that so many bytes spell, with these names of functions; functions and globals by their indices, imports counted first
unfoldable pub module_members : ℕ → List Named → Module → List (List ℕ × Data)
module_members bytes names m =
    (codes "bytes", small bytes)
    ∷ (codes "imports", array_of (map (import_data m.types) m.imports))
    ∷ (codes "exports", array_of (map (export_data m) m.exports))
    ∷ (codes "functions", array_of (numbered (named_func_data m.types names) (imported_funcs m.imports) m.funcs))
    ∷ (codes "tables", array_of (map limits_data m.tables))
    ∷ (codes "memories", array_of (map limits_data m.memories))
    ∷ (codes "globals", array_of (numbered global_data (length (imported_globals m)) m.globals))
    ∷ (codes "start", maybe small m.start)
    ∷ (codes "elements", small (length m.elements))
    ∷ (codes "data", small (length m.datas))
    ∷ []

unfoldable pub module_data : ℕ → List Named → Module → Data
module_data bytes names m = object_of ((codes "kind", string (codes "module")) ∷ module_members bytes names m)

-- the text of a module that these bytes spell, with the names of functions that they carry
pub record IsModuleJson (bytes : List ℕ) (m : Module) (text : List ℕ) : Type 0 where
  pub names : List Named
  pub carried : AreNamesOf bytes names
  pub text_is : IsJson (module_data (length bytes) names m) text
