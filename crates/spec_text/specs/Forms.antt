-- The fields of a text, with names kept, folded forms unfolded and each body one flat list. T is what a name or an integer is.
use Rattle.std.specs.Prelude.{ℕ, List, map, Option, option_map}
use Rattle.wtypes.specs.declared.ValType.{ValType}
use Rattle.wtypes.specs.declared.LoadOp.{LoadOp}
use Rattle.wtypes.specs.declared.StoreOp.{StoreOp}
use Rattle.spec_modules.specs.Syntax.{GlobalType}
use Rattle.spec_text.specs.declared.Operator.{Operator}

-- an index in the text: an integer, or a name
pub data Index (T : Type 0) : Type 0 where
  Numbered : T → Index T
  Named : T → Index T

pub record Binding (T : Type 0) : Type 0 where
  pub name : Option T
  pub type : ValType

-- what is written of a function's type
pub record TypeUse (T : Type 0) : Type 0 where
  pub index : Option (Index T)
  pub params : List (Binding T)
  pub results : List ValType

pub data Opener : Type 0 where
  Block Loop If : Opener

-- one instruction of a flat body
pub data Flat (T : Type 0) : Type 0 where
  -- an instruction with nothing after its name
  Simple : Operator → Flat T
  -- with one index
  Indexed : Operator → Index T → Flat T
  BrTable : List (Index T) → Index T → Flat T
  CallIndirect : TypeUse T → Flat T
  -- the integers, where they are written
  Load : LoadOp → (offset align : Option T) → Flat T
  Store : StoreOp → (offset align : Option T) → Flat T
  Const : ValType → T → Flat T
  Opens : Opener → (label : Option T) → (result : Option ValType) → Flat T
  Else : (label : Option T) → Flat T
  End : (label : Option T) → Flat T

-- the integers
pub record Bounds (T : Type 0) : Type 0 where
  pub min : T
  pub max : Option T

pub data Kind : Type 0 where
  OfFunc OfTable OfMemory OfGlobal : Kind

pub data Desc (T : Type 0) : Type 0 where
  FuncDesc : TypeUse T → Desc T
  TableDesc : Bounds T → Desc T
  MemoryDesc : Bounds T → Desc T
  GlobalDesc : GlobalType → Desc T

pub data Field (T : Type 0) : Type 0 where
  TypeField : (name : Option T) (params : List (Binding T)) (results : List ValType) → Field T
  ImportField : (from_module item : List ℕ) (name : Option T) → Desc T → Field T
  FuncField : (name : Option T) (exports : List (List ℕ)) → TypeUse T → (locals : List (Binding T)) (body : List (Flat T)) → Field T
  TableField : (name : Option T) → Bounds T → Field T
  MemoryField : (name : Option T) → Bounds T → Field T
  GlobalField : (name : Option T) → GlobalType → (init : List (Flat T)) → Field T
  ExportField : (item : List ℕ) → Kind → Index T → Field T
  StartField : Index T → Field T
  ElemField : Index T → (offset : List (Flat T)) → List (Index T) → Field T
  DataField : Index T → (offset : List (Flat T)) → (bytes : List ℕ) → Field T

-- ---- the same with f of each name and each integer

abbrev pub index_by : {T U : Type 0} → (T → U) → Index T → Index U
index_by f (Numbered n) = Numbered (f n)
index_by f (Named n) = Named (f n)

abbrev pub binding_by : {T U : Type 0} → (T → U) → Binding T → Binding U
binding_by f b = record { name = option_map f b.name; type = b.type }

abbrev pub use_by : {T U : Type 0} → (T → U) → TypeUse T → TypeUse U
use_by f u = record { index = option_map (index_by f) u.index; params = map (binding_by f) u.params; results = u.results }

abbrev pub flat_by : {T U : Type 0} → (T → U) → Flat T → Flat U
flat_by f (Simple op) = Simple op
flat_by f (Indexed op i) = Indexed op (index_by f i)
flat_by f (BrTable is last) = BrTable (map (index_by f) is) (index_by f last)
flat_by f (CallIndirect u) = CallIndirect (use_by f u)
flat_by f (Load op offset align) = Load op (option_map f offset) (option_map f align)
flat_by f (Store op offset align) = Store op (option_map f offset) (option_map f align)
flat_by f (Const t n) = Const t (f n)
flat_by f (Opens o label result) = Opens o (option_map f label) result
flat_by f (Else label) = Else (option_map f label)
flat_by f (End label) = End (option_map f label)

abbrev pub bounds_by : {T U : Type 0} → (T → U) → Bounds T → Bounds U
bounds_by f b = record { min = f b.min; max = option_map f b.max }

abbrev pub desc_by : {T U : Type 0} → (T → U) → Desc T → Desc U
desc_by f (FuncDesc u) = FuncDesc (use_by f u)
desc_by f (TableDesc b) = TableDesc (bounds_by f b)
desc_by f (MemoryDesc b) = MemoryDesc (bounds_by f b)
desc_by f (GlobalDesc t) = GlobalDesc t

abbrev pub field_by : {T U : Type 0} → (T → U) → Field T → Field U
field_by f (TypeField name params results) = TypeField (option_map f name) (map (binding_by f) params) results
field_by f (ImportField from_module item name desc) = ImportField from_module item (option_map f name) (desc_by f desc)
field_by f (FuncField name exports u locals body) = FuncField (option_map f name) exports (use_by f u) (map (binding_by f) locals) (map (flat_by f) body)
field_by f (TableField name bounds) = TableField (option_map f name) (bounds_by f bounds)
field_by f (MemoryField name bounds) = MemoryField (option_map f name) (bounds_by f bounds)
field_by f (GlobalField name type init) = GlobalField (option_map f name) type (map (flat_by f) init)
field_by f (ExportField item kind i) = ExportField item kind (index_by f i)
field_by f (StartField i) = StartField (index_by f i)
field_by f (ElemField i offset is) = ElemField (index_by f i) (map (flat_by f) offset) (map (index_by f) is)
field_by f (DataField i offset bytes) = DataField (index_by f i) (map (flat_by f) offset) bytes
