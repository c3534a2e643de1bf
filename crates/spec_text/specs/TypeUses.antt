-- Type uses, and the types that they add to a module (Core 6.6.3, Type Uses).
use Rattle.std.specs.Prelude.{◌≡◌, ◌≢◌, ℕ, suc, List, [], ◌∷◌, ◌++◌, Some, None, map, slice_get}
use Rattle.std.specs.List.{flat_map}
use Rattle.wtypes.specs.declared.ValType.{ValType}
use Rattle.spec_modules.specs.Syntax.{FuncType}
use Rattle.spec_text.specs.FieldsOfBytes
use Rattle.spec_text.specs.FieldsOfBytes.{Index, Binding, TypeUse, Flat, Field, ImportField, FuncField, GlobalField, ElemField, DataField, FuncDesc}
use Rattle.spec_text.specs.Spaces.{Names, Stands}

abbrev pub types_of : List Binding → List ValType
types_of bindings = map (λ b. b.type) bindings

abbrev pub names_of : List Binding → Names
names_of bindings = map (λ b. b.name) bindings

-- the first place of a type
pub data FirstType (t : FuncType) : List FuncType → ℕ → Type 0 where
  this_type : {u : FuncType} {ts : List FuncType} → u ≡ t → FirstType t (u ∷ ts) 0
  later_type : {u : FuncType} {ts : List FuncType} {i : ℕ} → u ≢ t → FirstType t ts i → FirstType t (u ∷ ts) (suc i)

-- what is written, as a type: [t₁*] → [t₂*]
abbrev pub written_type : TypeUse → FuncType
written_type w = record { params = types_of w.params; results = w.results }

-- 6.6.3: what is written of a type stands for the type number i of the module's types, with these names of its parameters (x, I′)
pub data Uses (type_names : Names) (types : List FuncType) : TypeUse → ℕ → Names → Type 0 where
  -- (t₁:param)* (t₂:result)* ≡ '(' 'type' x ')' param* result*, where x is the smallest type index whose definition is [t₁*] → [t₂*]
  inline : {ps : List Binding} {rs : List ValType} {i : ℕ} → FirstType (written_type (record { index = None; params = ps; results = rs })) types i
      → Uses type_names types (record { index = None; params = ps; results = rs }) i (names_of ps)
  -- '(' 'type' x:typeidx_I ')' ⇒ x, I′ (if I.typedefs[x] = [t₁ⁿ] → [t₂*] ∧ I′ = {locals (ε)ⁿ})
  alone : {index : Index} {i : ℕ} {t : FuncType} → Stands type_names index i → slice_get types i ≡ Some t
      → Uses type_names types (record { index = Some index; params = []; results = [] }) i (map (λ _. None) t.params)
  -- '(' 'type' x:typeidx_I ')' (t₁:param)* (t₂:result)* ⇒ x, I′ (if I.typedefs[x] = [t₁*] → [t₂*] ∧ I′ = {locals id(param)*})
  again : {index : Index} {ps : List Binding} {rs : List ValType} {i : ℕ} → Stands type_names index i
      → slice_get types i ≡ Some (written_type (record { index = Some index; params = ps; results = rs }))
      → Uses type_names types (record { index = Some index; params = ps; results = rs }) i (names_of ps)

-- the inline types, in the order of the text
abbrev pub inline_of_use : TypeUse → List FuncType
inline_of_use w = elim w.index [ None ↦ written_type w ∷ [] | Some i ↦ [] ]

abbrev pub inline_of_flat : Flat → List FuncType
inline_of_flat (FieldsOfBytes.CallIndirect w) = inline_of_use w
inline_of_flat _ = []

abbrev pub inline_of_desc : FieldsOfBytes.Desc → List FuncType
inline_of_desc (FuncDesc w) = inline_of_use w
inline_of_desc _ = []

abbrev pub inline_of_field : Field → List FuncType
inline_of_field (ImportField m item name desc) = inline_of_desc desc
inline_of_field (FuncField name exports w locals body) = inline_of_use w ++ flat_map inline_of_flat body
inline_of_field (GlobalField name type init) = flat_map inline_of_flat init
inline_of_field (ElemField table offset funcs) = flat_map inline_of_flat offset
inline_of_field (DataField memory offset bytes) = flat_map inline_of_flat offset
inline_of_field _ = []

-- 6.6.3: the types, with each of the inline ones that is not there put at the end: "if no such index exists, then a new type definition
-- is inserted at the end of the module"
pub data Adds : List FuncType → List FuncType → List FuncType → Type 0 where
  all_added : {ts : List FuncType} → Adds ts [] ts
  is_there : {ts us all : List FuncType} {t : FuncType} {i : ℕ} → FirstType t ts i → Adds ts us all → Adds ts (t ∷ us) all
  is_new : {ts us all : List FuncType} {t : FuncType} → ((i : ℕ) → FirstType t ts i → ⊥) → Adds (ts ++ t ∷ []) us all → Adds ts (t ∷ us) all
