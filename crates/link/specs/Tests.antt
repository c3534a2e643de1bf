-- What a module that is to be instantiated is tested for.
use Rattle.std.specs.Prelude.{ℕ, ◌+◌, ◌*◌, ◌≤◌, Bool, true, false, ◌&&◌, nat_le, List, [], ◌∷◌, Option, Some, None, length, slice_get, ◌≡◌, All}
use Rattle.std.specs.Str.{bytes_eq}
use Rattle.wtypes.specs.declared.ValType.{ValType}
use Rattle.wtypes.specs.declared.HostCall.{HostCall}
use Rattle.wtypes.specs.declared.HostCall.TheVariants.{Get, Has, Put, Del, Add, Total, Ask, Answer}
use Rattle.spec_modules.specs.Syntax.{FuncType, Limits, Name, Import, ImportDesc, ImportFunc, ImportTable, ImportMemory, ImportGlobal, Element, DataSegment, Module}
use Rattle.spec_modules.specs.Profile.{page_size, page_limit, element_limit, host_module, host_name, host_type}
use Rattle.spec_modules.specs.Operators.{same_type}
use Rattle.spec_typing.specs.Modules.{tables, memories}
use Rattle.spec_typing.specs.Linking.{offset_number}

-- the number of the first element that fails a test, counted from n
abbrev pub step : Bool → ℕ → Option ℕ → Option ℕ
step true n rest = rest
step false n rest = Some n

abbrev pub first_fault : {X : Type 0} → (X → Bool) → ℕ → List X → Option ℕ
first_fault test n [] = None
first_fault test n (x ∷ xs) = step (test x) n (first_fault test (n + 1) xs)

-- ---- Imports

abbrev pub pick : Bool → HostCall → Option HostCall → Option HostCall
pick true call rest = Some call
pick false call rest = rest

-- the host call of this name
abbrev pub named : Name → Option HostCall
named n =
    pick (bytes_eq n (host_name Get)) Get
    (pick (bytes_eq n (host_name Has)) Has
    (pick (bytes_eq n (host_name Put)) Put
    (pick (bytes_eq n (host_name Del)) Del
    (pick (bytes_eq n (host_name Add)) Add
    (pick (bytes_eq n (host_name Total)) Total
    (pick (bytes_eq n (host_name Ask)) Ask
    (pick (bytes_eq n (host_name Answer)) Answer None)))))))

abbrev pub same_types : List ValType → List ValType → Bool
same_types [] [] = true
same_types (t ∷ ts) (u ∷ us) = same_type t u && same_types ts us
same_types _ _ = false

abbrev pub is_type : FuncType → Option FuncType → Bool
is_type want None = false
is_type want (Some t) = same_types t.params want.params && same_types t.results want.results

-- the type of an imported function
abbrev pub declared_type : List FuncType → ImportDesc → Option FuncType
declared_type types (ImportFunc index) = slice_get types index
declared_type types (ImportTable limits) = None
declared_type types (ImportMemory limits) = None
declared_type types (ImportGlobal type) = None

abbrev pub is_function : ImportDesc → Bool
is_function (ImportFunc index) = true
is_function (ImportTable limits) = false
is_function (ImportMemory limits) = false
is_function (ImportGlobal type) = false

abbrev pub when : Bool → Option HostCall → Option HostCall
when true call = call
when false call = None

-- the host call that an import names, as a function
abbrev pub call_named : Import → Option HostCall
call_named i = when (bytes_eq i.from_module host_module && is_function i.desc) (named i.name)

abbrev pub typed_as : List FuncType → ImportDesc → Option HostCall → Option HostCall
typed_as types desc None = None
typed_as types desc (Some call) = when (is_type (host_type call) (declared_type types desc)) (Some call)

-- the host call that an import is
abbrev pub call_of : List FuncType → Import → Option HostCall
call_of types i = typed_as types i.desc (call_named i)

abbrev pub is_there : Option HostCall → Bool
is_there None = false
is_there (Some call) = true

abbrev pub is_call : List FuncType → Import → Bool
is_call types i = is_there (call_of types i)

-- ---- Segments

-- so many items from an offset end within this table
abbrev pub ends_in_table : Option ℕ → ℕ → Option Limits → Bool
ends_in_table (Some at) count (Some limits) = nat_le (at + count) limits.min
ends_in_table _ count _ = false

abbrev pub ends_in_memory : Option ℕ → ℕ → Option Limits → Bool
ends_in_memory (Some at) count (Some limits) = nat_le (at + count) (limits.min * page_size)
ends_in_memory _ count _ = false

abbrev pub element_fits : List Limits → Element → Bool
element_fits tables e = ends_in_table (offset_number e.offset) (length e.funcs) (slice_get tables e.table)

abbrev pub data_fits : List Limits → DataSegment → Bool
data_fits memories d = ends_in_memory (offset_number d.offset) (length d.bytes) (slice_get memories d.memory)

-- ---- Limits

abbrev pub is_within : ℕ → Limits → Bool
is_within most l = nat_le l.min most

-- ---- The whole

abbrev pub AllCalls : Module → Type 0
AllCalls m = All (λ i. is_call m.types i ≡ true) m.imports

-- the memory and the table keep the limits of the profile
abbrev pub Sized : Module → Type 0
Sized m = All (λ limits. limits.min ≤ page_limit) (memories m) × All (λ limits. limits.min ≤ element_limit) (tables m)
