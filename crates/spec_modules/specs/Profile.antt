-- The profile: the limits of this product, and the host module that contracts import.
use Rattle.std.specs.Prelude.{ℕ, [], ◌∷◌, codes}
use Rattle.wtypes.specs.declared.ValType.TheVariants.{I32, I64}
use Rattle.wtypes.specs.declared.HostCall.{HostCall}
use Rattle.wtypes.specs.declared.HostCall.TheVariants.{Get, Has, Put, Del, Add, Total, Ask, Answer}
use Rattle.spec_modules.specs.Syntax.{FuncType, Name}

-- ---- Limits of a module, with the number that a refusal gives

-- 1: the bytes of a module, of its text, and of its shortest spelling
abbrev pub byte_limit : ℕ
byte_limit = 1048576

-- 2: the defined functions
abbrev pub function_limit : ℕ
function_limit = 4096

-- 3: the declared locals of a function, its parameters aside
abbrev pub local_limit : ℕ
local_limit = 1024

-- 4: the blocks that stand in one another, a body being level 0
abbrev pub nesting_limit : ℕ
nesting_limit = 128

-- 5: the labels of a `br_table`, the default aside
abbrev pub label_limit : ℕ
label_limit = 1024

-- ---- Limits of a contract and its execution

-- the bytes of a page (Core, Execution, Runtime Structure, Memory Instances)
abbrev pub page_size : ℕ
page_size = 65536

-- no memory has more pages
abbrev pub page_limit : ℕ
page_limit = 1024

-- no table has more elements at its beginning
abbrev pub element_limit : ℕ
element_limit = 65536

-- no more frames stand in one another
abbrev pub frame_limit : ℕ
frame_limit = 256

-- ---- The host module

abbrev pub host_module : Name
host_module = codes "boost"

abbrev pub host_name : HostCall → Name
host_name Get = codes "get"
host_name Has = codes "has"
host_name Put = codes "put"
host_name Del = codes "del"
host_name Add = codes "add"
host_name Total = codes "total"
host_name Ask = codes "ask"
host_name Answer = codes "answer"

-- of the six on cells the key comes first; `ask` takes the contract, the place of the export in its list, and the argument
abbrev pub host_type : HostCall → FuncType
host_type Get = record { params = I64 ∷ []; results = I64 ∷ [] }
host_type Has = record { params = I64 ∷ []; results = I32 ∷ [] }
host_type Put = record { params = I64 ∷ I64 ∷ []; results = [] }
host_type Del = record { params = I64 ∷ []; results = I32 ∷ [] }
host_type Add = record { params = I64 ∷ I64 ∷ []; results = [] }
host_type Total = record { params = I64 ∷ []; results = I64 ∷ [] }
host_type Ask = record { params = I32 ∷ I32 ∷ I64 ∷ []; results = I32 ∷ [] }
host_type Answer = record { params = []; results = I64 ∷ [] }
