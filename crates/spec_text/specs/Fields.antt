-- The fields of a text, with names, become a module (Core 6.6, Modules).
use Rattle.std.specs.Prelude.{◌≡◌, ℕ, suc, ◌+◌, List, [], ◌∷◌, ◌++◌, Option, Some, None, map}
use Rattle.std.specs.List.{flat_map, filter_map}
use Rattle.wtypes.specs.declared.ValType.{ValType}
use Rattle.spec_modules.specs.Syntax as S
use Rattle.spec_modules.specs.Syntax.{Instrs, FuncType, GlobalType, Module}
use Rattle.spec_text.specs.FieldsOfBytes
use Rattle.spec_text.specs.FieldsOfBytes.{Index, Binding, TypeUse, Flat, Field, TypeField, ImportField, FuncField, TableField, MemoryField, GlobalField, ExportField, StartField, ElemField, DataField, FuncDesc, TableDesc, MemoryDesc, GlobalDesc}
use Rattle.spec_text.specs.Numbers.{IsU32}
use Rattle.spec_text.specs.Spaces.{Names, Spaces, Stands, AreDistinct}
use Rattle.spec_text.specs.TypeUses.{types_of, names_of, Uses, inline_of_field, Adds}
use Rattle.spec_text.specs.Instructions.{AllStand, Body}

-- ---- the spaces of a text

-- 6.6.2: type ::= '(' 'type' id? ft:functype ')' ⇒ ft
abbrev pub declared_type : Field → Option FuncType
declared_type (TypeField name ps rs) = Some (record { params = types_of ps; results = rs })
declared_type _ = None

-- 6.6.13: what a field adds to each space of I, its name or that it has none: imports as the definitions that they stand for
abbrev pub type_name : Field → Names
type_name (TypeField name ps rs) = name ∷ []
type_name _ = []

abbrev pub func_name : Field → Names
func_name (ImportField m item name (FuncDesc w)) = name ∷ []
func_name (FuncField name exports w locals body) = name ∷ []
func_name _ = []

abbrev pub table_name : Field → Names
table_name (ImportField m item name (TableDesc b)) = name ∷ []
table_name (TableField name b) = name ∷ []
table_name _ = []

abbrev pub memory_name : Field → Names
memory_name (ImportField m item name (MemoryDesc b)) = name ∷ []
memory_name (MemoryField name b) = name ∷ []
memory_name _ = []

abbrev pub global_name : Field → Names
global_name (ImportField m item name (GlobalDesc t)) = name ∷ []
global_name (GlobalField name t init) = name ∷ []
global_name _ = []

-- 6.6.13: I is what all fields add, in the order of the text, and is well-formed; its types are the declared ones, then the new inline ones.
pub record AreSpaces (fields : List Field) (s : Spaces) : Type 0 where
  pub types : Adds (filter_map declared_type fields) (flat_map inline_of_field fields) s.types
  pub type_names : (s.type_names ≡ flat_map type_name fields) × AreDistinct s.type_names
  pub funcs : (s.funcs ≡ flat_map func_name fields) × AreDistinct s.funcs
  pub tables : (s.tables ≡ flat_map table_name fields) × AreDistinct s.tables
  pub memories : (s.memories ≡ flat_map memory_name fields) × AreDistinct s.memories
  pub globals : (s.globals ≡ flat_map global_name fields) × AreDistinct s.globals

-- ---- the parts of a module

-- 6.4.4: limits
pub data IsLimits : FieldsOfBytes.Bounds → S.Limits → Type 0 where
  -- n:u32 ⇒ {min n, max ε}
  from_minimum : {min : List ℕ} {m : ℕ} → IsU32 min m → IsLimits (record { min = min; max = None }) (record { min = m; max = None })
  -- n:u32 m:u32 ⇒ {min n, max m}
  between : {min max : List ℕ} {m n : ℕ} → IsU32 min m → IsU32 max n → IsLimits (record { min = min; max = Some max }) (record { min = m; max = Some n })

-- 6.6.4: importdesc_I
pub data IsDesc (s : Spaces) : FieldsOfBytes.Desc → S.ImportDesc → Type 0 where
  -- '(' 'func' id? x,I′:typeuse_I ')' ⇒ func x
  func : {w : TypeUse} {i : ℕ} {ns : Names} → Uses s.type_names s.types w i ns → IsDesc s (FuncDesc w) (S.ImportFunc i)
  -- '(' 'table' id? tt:tabletype ')' ⇒ table tt
  table : {b : FieldsOfBytes.Bounds} {l : S.Limits} → IsLimits b l → IsDesc s (TableDesc b) (S.ImportTable l)
  -- '(' 'memory' id? mt:memtype ')' ⇒ mem mt
  memory : {b : FieldsOfBytes.Bounds} {l : S.Limits} → IsLimits b l → IsDesc s (MemoryDesc b) (S.ImportMemory l)
  -- '(' 'global' id? gt:globaltype ')' ⇒ global gt
  global : {t : GlobalType} → IsDesc s (GlobalDesc t) (S.ImportGlobal t)

-- 6.6.9: exportdesc_I
pub data IsExport (s : Spaces) : FieldsOfBytes.Kind → Index → S.ExportDesc → Type 0 where
  -- '(' 'func' x:funcidx_I ')' ⇒ func x
  func : {i : Index} {n : ℕ} → Stands s.funcs i n → IsExport s FieldsOfBytes.OfFunc i (S.ExportFunc n)
  -- '(' 'table' x:tableidx_I ')' ⇒ table x
  table : {i : Index} {n : ℕ} → Stands s.tables i n → IsExport s FieldsOfBytes.OfTable i (S.ExportTable n)
  -- '(' 'memory' x:memidx_I ')' ⇒ mem x
  memory : {i : Index} {n : ℕ} → Stands s.memories i n → IsExport s FieldsOfBytes.OfMemory i (S.ExportMemory n)
  -- '(' 'global' x:globalidx_I ')' ⇒ global x
  global : {i : Index} {n : ℕ} → Stands s.globals i n → IsExport s FieldsOfBytes.OfGlobal i (S.ExportGlobal n)

-- 6.6.13: from function number f on, the fields make these parts of a module, put together in the order of the text (m₁ ⊕ m₂). Imports stand
-- before all functions, tables, memories and globals, and start at most once: start is empty, and imports too, in what follows.
pub data Makes (s : Spaces) : (fs : List Field) (f : ℕ) → Module → Type 0 where
  -- ε, with the types of I
  end : {f : ℕ} → Makes s [] f (record { types = s.types; imports = []; funcs = []; tables = []; memories = []; globals = []; exports = []; start = None; elements = []; datas = [] })
  -- 6.6.2: type ::= '(' 'type' id? ft:functype ')' ⇒ ft: it stands in the types of I
  type : {fs : List Field} {f : ℕ} {m : Module} {name : Option (List ℕ)} {ps : List Binding} {rs : List ValType} → Makes s fs f m → Makes s (TypeField name ps rs ∷ fs) f m
  -- 6.6.4: import_I ::= '(' 'import' mod:name nm:name d:importdesc_I ')' ⇒ {module mod, name nm, desc d}
  import : {fs : List Field} {f : ℕ} {m : Module} {from_module item : List ℕ} {name : Option (List ℕ)} {desc : FieldsOfBytes.Desc} {d : S.ImportDesc} → IsDesc s desc d → Makes s fs f m
      → Makes s (ImportField from_module item name desc ∷ fs) f (record m { imports = record { from_module = from_module; name = item; desc = d } ∷ m.imports })
  -- 6.6.5: func_I ::= '(' 'func' id? x,I′:typeuse_I (t:local)* (in:instr_I″)* ')' ⇒ {type x, locals t*, body in* end}
  -- (if I″ = I ⊕ I′ ⊕ {locals id(local)*} well-formed); an inline export is an export of it, in the order of the text
  func : {fs : List Field} {f i : ℕ} {m : Module} {name : Option (List ℕ)} {items : List (List ℕ)} {w : TypeUse} {ns : Names} {locals : List Binding} {flats : List Flat} {body : Instrs}
      → m.imports ≡ [] → Uses s.type_names s.types w i ns → AreDistinct (ns ++ names_of locals) → Body s (ns ++ names_of locals) [] flats [] body → Makes s fs (suc f) m
      → Makes s (FuncField name items w locals flats ∷ fs) f
      (record m { funcs = record { type_index = i; locals = types_of locals; body = body } ∷ m.funcs; exports = map (λ item. record { name = item; desc = S.ExportFunc f }) items ++ m.exports })
  -- 6.6.6: table_I ::= '(' 'table' id? tt:tabletype ')' ⇒ {type tt}
  table : {fs : List Field} {f : ℕ} {m : Module} {name : Option (List ℕ)} {b : FieldsOfBytes.Bounds} {l : S.Limits} → m.imports ≡ [] → IsLimits b l → Makes s fs f m
      → Makes s (TableField name b ∷ fs) f (record m { tables = l ∷ m.tables })
  -- 6.6.7: mem_I ::= '(' 'memory' id? mt:memtype ')' ⇒ {type mt}
  memory : {fs : List Field} {f : ℕ} {m : Module} {name : Option (List ℕ)} {b : FieldsOfBytes.Bounds} {l : S.Limits} → m.imports ≡ [] → IsLimits b l → Makes s fs f m
      → Makes s (MemoryField name b ∷ fs) f (record m { memories = l ∷ m.memories })
  -- 6.6.8: global_I ::= '(' 'global' id? gt:globaltype e:expr_I ')' ⇒ {type gt, init e}, where expr_I ::= (in:instr_I)* ⇒ in* end (6.5.8)
  global : {fs : List Field} {f : ℕ} {m : Module} {name : Option (List ℕ)} {t : GlobalType} {flats : List Flat} {init : Instrs} → m.imports ≡ [] → Body s [] [] flats [] init → Makes s fs f m
      → Makes s (GlobalField name t flats ∷ fs) f (record m { globals = record { type = t; init = init } ∷ m.globals })
  -- 6.6.9: export_I ::= '(' 'export' nm:name d:exportdesc_I ')' ⇒ {name nm, desc d}
  export : {fs : List Field} {f : ℕ} {m : Module} {item : List ℕ} {kind : FieldsOfBytes.Kind} {i : Index} {d : S.ExportDesc} → IsExport s kind i d → Makes s fs f m
      → Makes s (ExportField item kind i ∷ fs) f (record m { exports = record { name = item; desc = d } ∷ m.exports })
  -- 6.6.10: start_I ::= '(' 'start' x:funcidx_I ')' ⇒ {func x}
  start : {fs : List Field} {f n : ℕ} {m : Module} {i : Index} → m.start ≡ None → Stands s.funcs i n → Makes s fs f m → Makes s (StartField i ∷ fs) f (record m { start = Some n })
  -- 6.6.11: elem_I ::= '(' 'elem' x:tableidx_I '(' 'offset' e:expr_I ')' y*:vec(funcidx_I) ')' ⇒ {table x, offset e, init y*}
  elem : {fs : List Field} {f t : ℕ} {m : Module} {i : Index} {flats : List Flat} {offset : Instrs} {is : List Index} {ns : List ℕ} → Stands s.tables i t → Body s [] [] flats [] offset → AllStand s.funcs is ns
      → Makes s fs f m → Makes s (ElemField i flats is ∷ fs) f (record m { elements = record { table = t; offset = offset; funcs = ns } ∷ m.elements })
  -- 6.6.12: data_I ::= '(' 'data' x:memidx_I '(' 'offset' e:expr_I ')' b*:datastring ')' ⇒ {data x, offset e, init b*}
  data_segment : {fs : List Field} {f n : ℕ} {m : Module} {i : Index} {flats : List Flat} {offset : Instrs} {bytes : List ℕ} → Stands s.memories i n → Body s [] [] flats [] offset
      → Makes s fs f m → Makes s (DataField i flats bytes ∷ fs) f (record m { datas = record { memory = n; offset = offset; bytes = bytes } ∷ m.datas })

-- the functions that are imported: their numbers come first (2.5.1)
abbrev pub imported_funcs : Field → ℕ
imported_funcs (ImportField m item name (FuncDesc w)) = 1
imported_funcs _ = 0

abbrev pub count_imported : List Field → ℕ
count_imported [] = 0
count_imported (f ∷ fs) = imported_funcs f + count_imported fs

-- 6.6.13: module ::= '(' 'module' id? (m:modulefield_I)* ')' ⇒ m* put together: the fields are the module
abbrev pub Resolves : List Field → Module → Type 0
Resolves fields m = (s : Spaces) × AreSpaces fields s × Makes s fields (count_imported fields) m
