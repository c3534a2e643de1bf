-- The lines of a module.
use Rattle.std.specs.Prelude.{ℕ, List, [], ◌∷◌, ◌++◌, ◌==◌, if◌then◌else◌, Option, Some, None, codes, decimal, length, slice_get}
use Rattle.std.specs.List.{flat_map}
use Rattle.wtypes.specs.declared.ValType.{ValType}
use Rattle.spec_modules.specs.Syntax.{Name, FuncType, Limits, GlobalType, ImportDesc, ImportFunc, ImportTable, ImportMemory, ImportGlobal, ExportDesc, ExportFunc, ExportTable, ExportMemory, ExportGlobal, Import, Export, Func, Global, Module}
use Rattle.spec_modules.specs.Shape.{size}
use Rattle.spec_typing.specs.Modules.{type_at, func_type_indices, imported_globals}
use Rattle.module_tree.specs.Readers.{imported_funcs}
use Rattle.figures.specs.Names.{type_name}
use Rattle.wblock_words.specs.Names.{Named, name_among}
use Rattle.wblock_contents.specs.Names.{name_text}
use Rattle.wblock_contents.specs.Lines.{numbered}

-- ---- types

-- ` T` for each type
abbrev pub types_text : List ValType → List ℕ
types_text [] = []
types_text (t ∷ ts) = (codes " " ++ type_name t) ++ types_text ts

-- ` (WORD T..)`, or nothing where there is no type
abbrev pub listed : List ℕ → List ValType → List ℕ
listed word ts = if length ts == 0 then [] else codes " (" ++ word ++ types_text ts ++ codes ")"

-- ` (param T..) (result T..)`
abbrev pub func_type_text : FuncType → List ℕ
func_type_text t = listed (codes "param") t.params ++ listed (codes "result") t.results

-- ` MIN` or ` MIN MAX`
abbrev pub limits_text : Limits → List ℕ
limits_text l = codes " " ++ decimal l.min ++ max_text l.max
  where
    max_text : Option ℕ → List ℕ
    max_text None = []
    max_text (Some n) = codes " " ++ decimal n

-- `T` or `(mut T)`
abbrev pub global_type_text : GlobalType → List ℕ
global_type_text g = if g.is_mutable then codes "(mut " ++ type_name g.type ++ codes ")" else type_name g.type

-- ---- imports and exports

abbrev pub import_text : List FuncType → ImportDesc → List ℕ
import_text types (ImportFunc index) = codes "func" ++ func_type_text (type_at types index)
import_text types (ImportTable l) = codes "table" ++ limits_text l
import_text types (ImportMemory l) = codes "memory" ++ limits_text l
import_text types (ImportGlobal g) = codes "global " ++ global_type_text g

-- `import N "MODULE"."NAME" WHAT`
abbrev pub import_line : List FuncType → ℕ → Import → List ℕ
import_line types n i = codes "import " ++ decimal n ++ codes " " ++ name_text i.from_module ++ codes "." ++ name_text i.name ++ codes " " ++ import_text types i.desc ++ 10 ∷ []

-- the type of the function of a number, by the type index of each
abbrev pub function_text : List FuncType → List ℕ → ℕ → List ℕ
function_text types indices x = by_index (slice_get indices x)
  where
    by_index : Option ℕ → List ℕ
    by_index None = []
    by_index (Some index) = func_type_text (type_at types index)

abbrev pub export_text : List FuncType → List ℕ → ExportDesc → List ℕ
export_text types indices (ExportFunc x) = codes "func " ++ decimal x ++ function_text types indices x
export_text types indices (ExportTable x) = codes "table " ++ decimal x
export_text types indices (ExportMemory x) = codes "memory " ++ decimal x
export_text types indices (ExportGlobal x) = codes "global " ++ decimal x

-- `export N "NAME" WHAT`
abbrev pub export_line : List FuncType → List ℕ → ℕ → Export → List ℕ
export_line types indices n e = codes "export " ++ decimal n ++ codes " " ++ name_text e.name ++ codes " " ++ export_text types indices e.desc ++ 10 ∷ []

-- a line for each import, and then for each export
abbrev pub interface_text : Module → List ℕ
interface_text m = numbered (import_line m.types) 0 m.imports ++ numbered (export_line m.types (func_type_indices m)) 0 m.exports

-- ---- what a module defines

-- ` locals L instructions N`
abbrev pub amounts_text : ℕ → ℕ → List ℕ
amounts_text locals instructions = codes " locals " ++ (decimal locals ++ (codes " instructions " ++ decimal instructions))

-- ` name "NAME"`, where there is a name
abbrev pub called_text : Option Name → List ℕ
called_text None = []
called_text (Some name) = codes " name " ++ name_text name

-- `function F TYPE locals L instructions N`, the instructions of all depths, and the name that the module carries for it
abbrev pub func_line : List FuncType → List Named → ℕ → Func → List ℕ
func_line types names n f = codes "function " ++ (decimal n ++ (func_type_text (type_at types f.type_index) ++ (amounts_text (length f.locals) (size f.body) ++ (called_text (name_among names n) ++ 10 ∷ []))))

-- a word and limits
abbrev pub limits_line : List ℕ → Limits → List ℕ
limits_line word l = word ++ limits_text l ++ 10 ∷ []

-- `global G TYPE`
abbrev pub global_line : ℕ → Global → List ℕ
global_line n g = codes "global " ++ decimal n ++ codes " " ++ global_type_text g.type ++ 10 ∷ []

-- `start F`, where there is a start function
abbrev pub start_text : Option ℕ → List ℕ
start_text None = []
start_text (Some f) = codes "start " ++ decimal f ++ 10 ∷ []

-- `elements N` and `data N`
abbrev pub segments_text : ℕ → ℕ → List ℕ
segments_text elements datas = codes "elements " ++ decimal elements ++ codes "\ndata " ++ decimal datas ++ 10 ∷ []

-- functions and globals by their numbers, imports counted first
abbrev pub defined_text : List Named → Module → List ℕ
defined_text names m =
    numbered (func_line m.types names) (imported_funcs m.imports) m.funcs
    ++ flat_map (limits_line (codes "table")) m.tables
    ++ flat_map (limits_line (codes "memory")) m.memories
    ++ numbered global_line (length (imported_globals m)) m.globals
    ++ start_text m.start
    ++ segments_text (length m.elements) (length m.datas)

-- `module N bytes`
abbrev pub size_line : ℕ → List ℕ
size_line size = codes "module " ++ decimal size ++ codes " bytes\n"

-- a module that so many bytes spell, which carry these names
abbrev pub module_text : ℕ → List Named → Module → List ℕ
module_text bytes names m = size_line bytes ++ interface_text m ++ defined_text names m
