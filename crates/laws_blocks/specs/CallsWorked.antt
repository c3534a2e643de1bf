-- Small contracts, calls of them, and what these ask of the cells.
use Rattle.std.specs.Prelude.{ℕ, List, [], ◌∷◌, None, Some, codes, pos}
use Rattle.wtypes.specs.declared.ValType.TheVariants as type
use Rattle.wtypes.specs.declared.Value.{Value}
use Rattle.wtypes.specs.declared.Value.TheVariants.{I32, I64}
use Rattle.wtypes.specs.declared.BinOp.TheVariants.{Add}
use Rattle.wtypes.specs.declared.CvtOp.TheVariants.{I64ExtendI32U}
use Rattle.wtypes.specs.declared.PlainInstr.TheVariants.{Unreachable, LocalGet, Const, Binary, Call, Drop, Convert}
use Rattle.wtypes.specs.declared.HostCall.{HostCall}
use Rattle.wtypes.specs.declared.HostCall.TheVariants as host
use Rattle.spec_modules.specs.Syntax.{Instr, Plain, nothing, instrs_of, Func, FuncType, Import, ImportFunc, Export, ExportFunc}
use Rattle.spec_modules.specs.Profile.{host_module, host_name, host_type}
use Rattle.spec_ledger.specs.declared.Version.TheVariants.{Two}
use Rattle.spec_ledger.specs.declared.CellKey.{CellKey}
use Rattle.spec_ledger.specs.declared.Op.TheVariants as op
use Rattle.spec_ledger.specs.declared.Outcome.{Outcome}
use Rattle.spec_ledger.specs.declared.Outcome.TheVariants.{Returned}
use Rattle.spec_ledger.specs.declared.Receipt.{Receipt}
use Rattle.spec_ledger.specs.declared.Reply.TheVariants as reply
use Rattle.spec_ledger.specs.declared.TraceStep.{TraceStep}
use Rattle.spec_ledger.specs.declared.TraceStep.TheVariants.{Did, Opened, Kept, Dropped}
use Rattle.spec_ledger.specs.Modes.{touched}
use Rattle.spec_execution.specs.Configuration.{Setting, Deployed, Contract, Seq, End, Val, Code, Label, Frame, State, Config, Running}
use Rattle.spec_execution.specs.Run.{ContractCall}
use Rattle.spec_execution.specs.Serial.{CallResult}

-- an import of this type's number
abbrev import_of : ℕ → HostCall → Import
import_of n h = record { from_module = host_module; name = host_name h; desc = ImportFunc n }

-- a module of one function, of type 0 and exported as "run", with these imports; the others of its types are those of the imports
abbrev one_function : List FuncType → List Import → List HostCall → (number : ℕ) → List Instr → Deployed
one_function types imports hosts number body = record {
  tree = record {
    types = types;
    imports = imports;
    funcs = record { type_index = 0; locals = []; body = instrs_of body } ∷ [];
    tables = [];
    memories = [];
    globals = [];
    exports = record { name = codes "run"; desc = ExportFunc number } ∷ [];
    start = None;
    elements = [];
    datas = [];
  };
  hosts = hosts;
}

abbrev number_to_number : FuncType
number_to_number = record { params = type.I64 ∷ []; results = type.I64 ∷ [] }

-- its argument and 7 more
abbrev pub adds_seven : Deployed
adds_seven = one_function (number_to_number ∷ []) [] [] 0 (Plain (LocalGet 0) ∷ Plain (Const (I64 (pos 7))) ∷ Plain (Binary (Add type.I64)) ∷ [])

-- only a trap
abbrev pub gives_up : Deployed
gives_up = one_function (record { params = []; results = [] } ∷ []) [] [] 0 (Plain Unreachable ∷ [])

-- adds 5 to the counter of its argument, and returns its total
abbrev pub counts : Deployed
counts =
    one_function (number_to_number ∷ host_type host.Add ∷ []) (import_of 1 host.Add ∷ import_of 0 host.Total ∷ []) (host.Add ∷ host.Total ∷ []) 2
    (Plain (LocalGet 0) ∷ Plain (Const (I64 (pos 5))) ∷ Plain (Call 0) ∷ Plain (LocalGet 0) ∷ Plain (Call 1) ∷ [])

-- puts 5 into the cell of its argument, asks whether it is there, gets it, and deletes it
abbrev pub keeps : Deployed
keeps =
    one_function (number_to_number ∷ host_type host.Put ∷ host_type host.Has ∷ [])
    (import_of 1 host.Put ∷ import_of 2 host.Has ∷ import_of 0 host.Get ∷ import_of 2 host.Del ∷ []) (host.Put ∷ host.Has ∷ host.Get ∷ host.Del ∷ []) 4 (
    Plain (LocalGet 0) ∷ Plain (Const (I64 (pos 5))) ∷ Plain (Call 0) ∷ Plain (LocalGet 0) ∷ Plain (Call 1) ∷ Plain Drop ∷ Plain (LocalGet 0)
    ∷ Plain (Call 2) ∷ Plain (LocalGet 0) ∷ Plain (Call 3) ∷ Plain Drop ∷ []
    )

abbrev function_of : (type_index : ℕ) → List Instr → Func
function_of type_index body = record { type_index = type_index; locals = []; body = instrs_of body }

abbrev export_of : List ℕ → (number : ℕ) → Export
export_of name number = record { name = name; desc = ExportFunc number }

-- "one" adds 1 to the counter of its argument; "bad" does, and traps; "try" adds 10 and asks for the export of its number; "deep" asks for itself
abbrev pub asking : Deployed
asking = record {
  tree = record {
    types = host_type host.Add ∷ host_type host.Ask ∷ host_type host.Answer ∷ number_to_number ∷ record { params = type.I32 ∷ type.I64 ∷ []; results = type.I64 ∷ [] } ∷ [];
    imports = import_of 0 host.Add ∷ import_of 1 host.Ask ∷ import_of 2 host.Answer ∷ [];
    funcs =
        function_of 3 (Plain (LocalGet 0) ∷ Plain (Const (I64 (pos 1))) ∷ Plain (Call 0) ∷ Plain (LocalGet 0) ∷ [])
        ∷ function_of 3 (Plain (LocalGet 0) ∷ Plain (Const (I64 (pos 1))) ∷ Plain (Call 0) ∷ Plain Unreachable ∷ [])
        ∷ function_of 4 (
        Plain (LocalGet 1) ∷ Plain (Const (I64 (pos 10))) ∷ Plain (Call 0) ∷ Plain (Const (I32 (pos 0))) ∷ Plain (LocalGet 0) ∷ Plain (LocalGet 1)
        ∷ Plain (Call 1) ∷ Plain Drop ∷ Plain (Call 2) ∷ []
        )
        ∷ function_of 3 (Plain (Const (I32 (pos 0))) ∷ Plain (Const (I32 (pos 3))) ∷ Plain (LocalGet 0) ∷ Plain (Call 1) ∷ Plain (Convert I64ExtendI32U) ∷ [])
        ∷ [];
    tables = [];
    memories = [];
    globals = [];
    exports = export_of (codes "one") 3 ∷ export_of (codes "bad") 4 ∷ export_of (codes "try") 5 ∷ export_of (codes "deep") 6 ∷ [];
    start = None;
    elements = [];
    datas = [];
  };
  hosts = host.Add ∷ host.Ask ∷ host.Answer ∷ [];
}

-- over this contract alone, with number 0, in version 2
abbrev pub only : Deployed → Setting
only d = record { contracts = d ∷ []; version = Two }

abbrev pub at_0 : Deployed → Contract
at_0 d = record { number = 0; deployed = d; version = Two }

-- a call of "run" of contract 0
abbrev pub call_with : (fuel : ℕ) → List Value → ContractCall
call_with fuel args = record { contract = 0; entry = codes "run"; args = args; fuel = fuel }

-- one of the number 5 and one of the key 9
abbrev pub on_five : (fuel : ℕ) → ContractCall
on_five fuel = call_with fuel (I64 (pos 5) ∷ [])

abbrev pub on_key_nine : (fuel : ℕ) → ContractCall
on_key_nine fuel = call_with fuel (I64 (pos 9) ∷ [])

abbrev pub nine : CellKey
nine = record { contract = 0; key = 9 }

abbrev pub returned : ℕ → Outcome
returned n = Returned (Some (I64 (pos n)))

-- the receipt of a call that entered no level
abbrev pub alone_with : Outcome → (fuel : ℕ) → Receipt
alone_with outcome fuel = record { outcome = outcome; used = fuel; asks = 0 }

-- what `counts` asks, where it comes to this total
abbrev pub adds_and_reads : (total : ℕ) → List TraceStep
adds_and_reads total = Did (op.Add nine 5) reply.Nothing ∷ Did (op.Total nine) (reply.I64 (pos total)) ∷ []

-- what `keeps` asks, where it gets this
abbrev pub puts_and_deletes : (got : ℕ) → List TraceStep
puts_and_deletes got =
    Did (op.Put nine 5) reply.Nothing ∷ Did (op.Has nine) (reply.I32 (pos 1)) ∷ Did (op.Get nine) (reply.I64 (pos got))
    ∷ Did (op.Del nine) (reply.I32 (pos 1)) ∷ []

-- what a call of `counts` comes to, with this total
abbrev pub counted : (total : ℕ) → CallResult
counted total = record { receipt = alone_with (returned total) 5; touched = touched (adds_and_reads total) }

-- ---- levels

-- a call of "try" for this export with 7, and one of "deep"
abbrev pub tries : (export : ℕ) → ContractCall
tries export = record { contract = 0; entry = codes "try"; args = I32 (pos export) ∷ I64 (pos 7) ∷ []; fuel = 100 }

abbrev pub goes_deep : (fuel : ℕ) → ContractCall
goes_deep fuel = record { contract = 0; entry = codes "deep"; args = I64 (pos 7) ∷ []; fuel = fuel }

-- so much added to the counter 7
abbrev pub added : ℕ → TraceStep
added n = Did (op.Add (record { contract = 0; key = 7 }) n) reply.Nothing

-- 10 are added, and 1 in a level that is left so
abbrev pub adds_in_a_level : (mark : TraceStep) → List TraceStep
adds_in_a_level mark = added 10 ∷ Opened ∷ added 1 ∷ mark ∷ []

abbrev pub adds_ten : List TraceStep
adds_ten = added 10 ∷ []

abbrev pub four_levels : List TraceStep
four_levels = Opened ∷ Opened ∷ Opened ∷ Opened ∷ Kept ∷ Kept ∷ Kept ∷ Kept ∷ []

abbrev pub two_levels : List TraceStep
two_levels = Opened ∷ Opened ∷ Dropped ∷ Dropped ∷ []

-- ---- states

-- no globals, no memory, no table, and no frame around
abbrev pub bare : State
bare = record { globals = []; memory = []; table = []; locals = [] }

-- inside the one function, called with this number
abbrev pub in_run : (number argument : ℕ) → Seq → Config
in_run number argument q = Running bare (Frame number 1 (I64 (pos argument) ∷ []) (Label 1 0 nothing q End) End)

-- 5 and 7 on the stack, and the sum to come
abbrev pub before_the_sum : Config
before_the_sum = in_run 0 5 (Val (I64 (pos 5)) (Val (I64 (pos 7)) (Code 2 (Plain (Binary (Add type.I64))) End)))

-- the sum alone, outside of the function
abbrev pub after_the_sum : Config
after_the_sum = Running bare (Val (I64 (pos 12)) End)

-- the counter added to, and its total to be asked for
abbrev pub before_the_total : Config
before_the_total = in_run 2 9 (Code 3 (Plain (LocalGet 0)) (Code 4 (Plain (Call 1)) End))
