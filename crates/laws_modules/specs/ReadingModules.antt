-- Reading modules from left to right.
use Rattle.std.specs.Prelude.{ℕ, zero, suc, ◌-◌, List, [], ◌∷◌, ◌++◌, length, take, drop, replicate, Option, Some, None, option_map, Bool, true, false, ◌==◌, nat_le, if◌then◌else◌}
use Rattle.std.specs.Str.{is_utf8}
use Rattle.wtypes.specs.declared.ValType.{ValType}
use Rattle.wtypes.specs.declared.ValType.TheVariants as valtype
use Rattle.spec_modules.specs.Syntax.{Instrs, FuncType, Limits, GlobalType, Name, ImportDesc, ImportFunc, ImportTable, ImportMemory, ImportGlobal, ExportDesc, ExportFunc, ExportTable, ExportMemory, ExportGlobal, Import, Func, Global, Export, Element, DataSegment, Module}
use Rattle.spec_modules.specs.Profile.{local_limit, function_limit}
use Rattle.spec_modules.specs.Reading.{Read, ◌>>=◌, unsigned_at}
use Rattle.laws_modules.specs.ReadingExpressions.{byte_at, vector_at, items_at, expression_at}

abbrev pub u32_at : List ℕ → Read ℕ
u32_at = unsigned_at 32

-- ---- readers of readers

-- a byte, and then what r reads
abbrev pub after_at : {X : Type 0} → ℕ → (List ℕ → Read X) → List ℕ → Read X
after_at k r bs = byte_at k bs >>= r

-- one after another
abbrev pub both_at : {X Y : Type 0} → (List ℕ → Read X) → (List ℕ → Read Y) → List ℕ → Read (X × Y)
both_at r s bs = r bs >>= λ x. option_map (λ y. ((x.0, y.0), y.1)) (s x.1)

abbrev pub made_at : {X Y : Type 0} → (X → Y) → (List ℕ → Read X) → List ℕ → Read Y
made_at make r bs = option_map (λ x. (make x.0, x.1)) (r bs)

-- a tag, and then what r reads; or what the other reads
abbrev pub tagged_at : {X : Type 0} → ℕ → (List ℕ → Read X) → (List ℕ → Read X) → List ℕ → Read X
tagged_at k r other [] = None
tagged_at k r other (b ∷ bs) = if b == k then r bs else other (b ∷ bs)

abbrev pub none_at : {X : Type 0} → List ℕ → Read X
none_at bs = None

abbrev pub given_at : {X : Type 0} → X → List ℕ → Read X
given_at x bs = Some (x, bs)

-- a size, and that many bytes
unfoldable pub sized_at : List ℕ → Read (List ℕ)
sized_at bs = unsigned_at 32 bs >>= λ n. if nat_le n.0 (length n.1) then Some (take n.0 n.1, drop n.0 n.1) else None

-- where nothing is left
abbrev pub if_empty : {X : Type 0} → X → List ℕ → Option X
if_empty x [] = Some x
if_empty x (b ∷ bs) = None

-- what is read from all of the bytes
abbrev pub whole_at : {X : Type 0} → (List ℕ → Read X) → List ℕ → Option X
whole_at r bs = r bs >>= λ s. if_empty s.0 s.1

-- a size, and that many bytes, from all of which r reads
abbrev pub inside_at : {X : Type 0} → (List ℕ → Read X) → List ℕ → Read X
inside_at r bs = sized_at bs >>= λ s. option_map (λ x. (x, s.1)) (whole_at r s.0)

-- ---- types and names

unfoldable pub value_type_at : List ℕ → Read ValType
value_type_at = tagged_at 0x7F (given_at valtype.I32) (tagged_at 0x7E (given_at valtype.I64) none_at)

unfoldable pub name_at : List ℕ → Read Name
name_at bs = sized_at bs >>= λ s. if is_utf8 s.0 then Some (s.0, s.1) else None

unfoldable pub func_type_at : List ℕ → Read FuncType
func_type_at = made_at (λ p. record { params = p.0; results = p.1 }) (after_at 0x60 (both_at (vector_at value_type_at) (vector_at value_type_at)))

unfoldable pub limits_at : List ℕ → Read Limits
limits_at =
    tagged_at 0x00 (made_at (λ n. record { min = n; max = None }) u32_at)
    (tagged_at 0x01 (made_at (λ p. record { min = p.0; max = Some p.1 }) (both_at u32_at u32_at)) none_at)

unfoldable pub table_type_at : List ℕ → Read Limits
table_type_at = after_at 0x70 limits_at

unfoldable pub mutability_at : List ℕ → Read Bool
mutability_at = tagged_at 0x00 (given_at false) (tagged_at 0x01 (given_at true) none_at)

unfoldable pub global_type_at : List ℕ → Read GlobalType
global_type_at = made_at (λ p. record { type = p.0; is_mutable = p.1 }) (both_at value_type_at mutability_at)

-- ---- what the sections hold

unfoldable pub import_desc_at : List ℕ → Read ImportDesc
import_desc_at =
    tagged_at 0x00 (made_at (λ t. ImportFunc t) u32_at)
    (tagged_at 0x01 (made_at (λ l. ImportTable l) table_type_at)
    (tagged_at 0x02 (made_at (λ l. ImportMemory l) limits_at)
    (tagged_at 0x03 (made_at (λ g. ImportGlobal g) global_type_at) none_at)))

unfoldable pub import_at : List ℕ → Read Import
import_at = made_at (λ p. record { from_module = p.0; name = p.1.0; desc = p.1.1 }) (both_at name_at (both_at name_at import_desc_at))

unfoldable pub export_desc_at : List ℕ → Read ExportDesc
export_desc_at =
    tagged_at 0x00 (made_at (λ x. ExportFunc x) u32_at)
    (tagged_at 0x01 (made_at (λ x. ExportTable x) u32_at)
    (tagged_at 0x02 (made_at (λ x. ExportMemory x) u32_at)
    (tagged_at 0x03 (made_at (λ x. ExportGlobal x) u32_at) none_at)))

unfoldable pub export_at : List ℕ → Read Export
export_at = made_at (λ p. record { name = p.0; desc = p.1 }) (both_at name_at export_desc_at)

-- an expression within the limit on nesting
abbrev pub init_at : List ℕ → Read Instrs
init_at = expression_at 129

unfoldable pub global_at : List ℕ → Read Global
global_at = made_at (λ p. record { type = p.0; init = p.1 }) (both_at global_type_at init_at)

unfoldable pub element_at : List ℕ → Read Element
element_at = made_at (λ p. record { table = p.0; offset = p.1.0; funcs = p.1.1 }) (both_at u32_at (both_at init_at (vector_at u32_at)))

unfoldable pub data_at : List ℕ → Read DataSegment
data_at = made_at (λ p. record { memory = p.0; offset = p.1.0; bytes = p.1.1 }) (both_at u32_at (both_at init_at sized_at))

-- so many runs of locals, of at most so many locals
unfoldable pub runs_at : ℕ → ℕ → List ℕ → Read (List ValType)
runs_at room zero bs = Some ([], bs)
runs_at room (suc n) bs =
    u32_at bs >>= λ c. if nat_le c.0 room
    then (value_type_at c.1 >>= λ t. option_map (λ s. (replicate c.0 t.0 ++ s.0, s.1)) (runs_at (room - c.0) n t.1))
    else None

unfoldable pub locals_at : List ℕ → Read (List ValType)
locals_at bs = u32_at bs >>= λ n. runs_at local_limit n.0 n.1

unfoldable pub code_at : List ℕ → Read (List ValType × Instrs)
code_at = inside_at (both_at locals_at init_at)

-- an entry for each of these type indices
unfoldable pub codes_at : List ℕ → List ℕ → Read (List Func)
codes_at [] bs = Some ([], bs)
codes_at (i ∷ is) bs = code_at bs >>= λ c. option_map (λ s. (record { type_index = i; locals = c.0.0; body = c.0.1 } ∷ s.0, s.1)) (codes_at is c.1)

-- ---- sections

-- what is behind the custom sections at the front; the number bounds the turns
unfoldable pub skip_at : ℕ → List ℕ → Option (List ℕ)
skip_at zero bs = Some bs
skip_at (suc n) [] = Some []
skip_at (suc n) (b ∷ bs) = if b == 0 then (sized_at bs >>= λ s. name_at s.0 >>= λ m. skip_at n s.1) else Some (b ∷ bs)

abbrev pub skip : List ℕ → Option (List ℕ)
skip bs = skip_at (length bs) bs

-- the section of this id, if it is the next, and the custom sections behind it; else what an absent one stands for
unfoldable pub slot_at : {X : Type 0} → ℕ → (List ℕ → Read X) → X → List ℕ → Read X
slot_at id r absent [] = Some (absent, [])
slot_at id r absent (b ∷ bs) =
    if b == id then (inside_at r bs >>= λ x. option_map (λ rest. (x.0, rest)) (skip x.1)) else Some (absent, b ∷ bs)

abbrev pub list_at : {X : Type 0} → ℕ → (List ℕ → Read X) → List ℕ → Read (List X)
list_at id r = slot_at id (vector_at r) []

-- a count within the limit, and that many type indices
unfoldable pub indices_at : List ℕ → Read (List ℕ)
indices_at bs = u32_at bs >>= λ n. if nat_le n.0 function_limit then items_at u32_at n.0 n.1 else None

-- as many entries as there are type indices
unfoldable pub entries_at : List ℕ → List ℕ → Read (List Func)
entries_at is bs = u32_at bs >>= λ n. if n.0 == length is then codes_at is n.1 else None

unfoldable pub header_at : List ℕ → Option (List ℕ)
header_at bs =
    byte_at 0x00 bs >>= λ bs. byte_at 0x61 bs >>= λ bs. byte_at 0x73 bs >>= λ bs. byte_at 0x6D bs
    >>= λ bs. byte_at 0x01 bs >>= λ bs. byte_at 0x00 bs >>= λ bs. byte_at 0x00 bs >>= λ bs. byte_at 0x00 bs

-- the module whose parts these are, where nothing is left and each function has its code
abbrev pub finished : List ℕ → Module → List ℕ → Option Module
finished is m rest = if length m.funcs == length is then if_empty m rest else None

unfoldable pub module_at : List ℕ → Option Module
module_at bytes =
    header_at bytes >>= λ b. skip b
    >>= λ b. list_at 1 func_type_at b
    >>= λ types. list_at 2 import_at types.1
    >>= λ imports. slot_at 3 indices_at [] imports.1
    >>= λ indices. list_at 4 table_type_at indices.1
    >>= λ tables. list_at 5 limits_at tables.1
    >>= λ memories. list_at 6 global_at memories.1
    >>= λ globals. list_at 7 export_at globals.1
    >>= λ exports. slot_at 8 (made_at (λ f. Some f) u32_at) None exports.1
    >>= λ start. list_at 9 element_at start.1
    >>= λ elements. slot_at 10 (entries_at indices.0) [] elements.1
    >>= λ funcs. list_at 11 data_at funcs.1
    >>= λ datas. finished indices.0 (record {
      types = types.0;
      imports = imports.0;
      funcs = funcs.0;
      tables = tables.0;
      memories = memories.0;
      globals = globals.0;
      exports = exports.0;
      start = start.0;
      elements = elements.0;
      datas = datas.0;
    }) datas.1
