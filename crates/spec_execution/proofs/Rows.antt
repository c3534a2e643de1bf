-- Worked examples of runs, places and refused calls, which compute.
use Rattle.std.proofs.Common.{◌≡◌, ℕ, List, [], ◌∷◌, Some, None, refl, pos, true}
use Rattle.wtypes.specs.declared.ValType.TheVariants as valtype
use Rattle.wtypes.specs.declared.Value.{Value}
use Rattle.wtypes.specs.declared.Value.TheVariants.{I32, I64}
use Rattle.wtypes.specs.declared.BinOp.TheVariants.{Add, Sub}
use Rattle.wtypes.specs.declared.TestOp.TheVariants.{Eqz}
use Rattle.wtypes.specs.declared.TrapCode.TheVariants as trap
use Rattle.wtypes.specs.declared.PlainInstr.TheVariants.{LocalGet, LocalTee, Const, Binary, Test, BrIf, Call}
use Rattle.spec_modules.specs.Syntax.{Instr, Plain, Loop, If, instrs_of, Module, FuncType, ExportFunc}
use Rattle.spec_ledger.specs.declared.Op.{Op}
use Rattle.spec_ledger.specs.declared.Reply.{Reply}
use Rattle.spec_ledger.specs.declared.TraceStep.{TraceStep}
use Rattle.spec_ledger.specs.declared.TraceStep.TheVariants.{Did}
use Rattle.spec_ledger.specs.declared.Op.TheVariants as op
use Rattle.spec_ledger.specs.declared.Reply.TheVariants as reply
use Rattle.spec_ledger.specs.declared.Outcome.TheVariants.{Returned, Trapped, OutOfFuel, Rejected}
use Rattle.wtypes.specs.declared.HostCall.TheVariants as host
use Rattle.spec_ledger.specs.declared.Version.TheVariants.{Two}
use Rattle.spec_execution.specs.Configuration.{Setting, Deployed, Contract, Config}
use Rattle.spec_execution.specs.Reduction.{reduce, execute, execute_plain}
use Rattle.spec_execution.specs.Run.{ContractCall}
use Rattle.spec_execution.specs.Levels.{first_level}
use Rattle.spec_execution.specs.Turns.{place_of, stack_of, locals_of}
use Rattle.spec_execution.specs.Walk.{report, walk, start_at}

-- these contracts, in version 2
abbrev pub over_these : List Deployed → Setting
over_these ds = record { contracts = ds; version = Two }

-- replies 5 to `total`, as the cells do that hold 5 there
abbrev pub five : List TraceStep → Op → Reply
five trace (op.Total p) = reply.I64 (pos 5)
five trace _ = reply.Nothing

-- ---- calls

abbrev pub no_module : Module
no_module = record { types = []; imports = []; funcs = []; tables = []; memories = []; globals = []; exports = []; start = None; elements = []; datas = [] }

-- "run"
abbrev pub run : List ℕ
run = 0x72 ∷ 0x75 ∷ 0x6E ∷ []

abbrev one_function : FuncType → List Instr → Deployed
one_function t body = record {
  tree = record no_module { types = t ∷ []; funcs = record { type_index = 0; locals = []; body = instrs_of body } ∷ []; exports = record { name = run; desc = ExportFunc 0 } ∷ [] };
  hosts = [];
}

-- counts down to zero
abbrev counts_down : Deployed
counts_down = one_function (record { params = valtype.I64 ∷ []; results = [] }) (Loop None (instrs_of (
    Plain (LocalGet 0) ∷ Plain (Const (I64 (pos 1))) ∷ Plain (Binary (Sub valtype.I64)) ∷ Plain (LocalTee 0)
    ∷ Plain (Test (Eqz valtype.I64)) ∷ Plain (Test (Eqz valtype.I32)) ∷ Plain (BrIf 0) ∷ [])) ∷ [])

abbrev pub call_from : ℕ → List Value → ContractCall
call_from fuel args = record { contract = 0; entry = run; args = args; fuel = fuel }

-- the countdown, with enough fuel and with one unit less
counts_with_16 : report 100 (over_these (counts_down ∷ [])) five (call_from 16 (I64 (pos 2) ∷ [])) ≡ record { at_end = true; outcome = Returned None; fuel = 16; trace = [] }
unfolding walk reduce execute execute_plain
counts_with_16 = refl

counts_with_15 : report 100 (over_these (counts_down ∷ [])) five (call_from 15 (I64 (pos 2) ∷ [])) ≡ record { at_end = true; outcome = OutOfFuel; fuel = 15; trace = [] }
unfolding walk reduce execute execute_plain
counts_with_15 = refl

-- endless recursion: a function that only calls itself
abbrev calls_itself : Deployed
calls_itself = one_function (record { params = []; results = [] }) (Plain (Call 0) ∷ [])

depth_row : report 600 (over_these (calls_itself ∷ [])) five (call_from 256 []) ≡ record { at_end = true; outcome = Trapped trap.CallDepth; fuel = 256; trace = [] }
unfolding walk reduce execute execute_plain
depth_row = refl

depth_row_255 : report 600 (over_these (calls_itself ∷ [])) five (call_from 255 []) ≡ record { at_end = true; outcome = OutOfFuel; fuel = 255; trace = [] }
unfolding walk reduce execute execute_plain
depth_row_255 = refl

-- the first module, which adds to a counter and reads it
abbrev first_module : Deployed
first_module = record {
  tree = record no_module {
    types = record { params = valtype.I64 ∷ valtype.I64 ∷ []; results = [] } ∷ record { params = valtype.I64 ∷ []; results = valtype.I64 ∷ [] } ∷ [];
    funcs = record {
      type_index = 1;
      locals = [];
      body = instrs_of (
          Plain (LocalGet 0) ∷ Plain (Const (I64 (pos 2))) ∷ Plain (Const (I64 (pos 3))) ∷ Plain (Binary (Add valtype.I64)) ∷ Plain (Call 0) ∷ Plain (LocalGet 0) ∷ Plain (Call 1) ∷ []);
    } ∷ [];
    exports = record { name = run; desc = ExportFunc 2 } ∷ [];
  };
  hosts = host.Add ∷ host.Total ∷ [];
}

adds : report 100 (over_these (first_module ∷ [])) five (call_from 100 (I64 (pos 7) ∷ [])) ≡ record {
  at_end = true;
  outcome = Returned (Some (I64 (pos 5)));
  fuel = 7;
  trace = Did (op.Add (record { contract = 0; key = 7 }) 5) reply.Nothing ∷ Did (op.Total (record { contract = 0; key = 7 })) (reply.I64 (pos 5)) ∷ [];
}
unfolding walk reduce execute execute_plain
adds = refl

-- limits 6 and 7 of the same
adds_with_6 : report 100 (over_these (first_module ∷ [])) five (call_from 6 (I64 (pos 7) ∷ [])) ≡ record { at_end = true; outcome = OutOfFuel; fuel = 6; trace = Did (op.Add (record { contract = 0; key = 7 }) 5) reply.Nothing ∷ [] }
unfolding walk reduce execute execute_plain
adds_with_6 = refl

-- ---- refused calls

abbrev refused_with : List Deployed → ContractCall → ℕ → Type 0
refused_with contracts call code = report 0 (over_these contracts) five call ≡ record { at_end = true; outcome = Rejected code; fuel = 0; trace = [] }

no_contract : refused_with (first_module ∷ []) (record { contract = 1; entry = run; args = []; fuel = 100 }) 6
no_contract = refl

no_export : refused_with (first_module ∷ []) (record { contract = 0; entry = []; args = []; fuel = 100 }) 1
no_export = refl

exports_import : refused_with (record first_module { tree = record first_module.tree { exports = record { name = run; desc = ExportFunc 1 } ∷ [] } } ∷ []) (call_from 100 []) 2
exports_import = refl

too_few : refused_with (first_module ∷ []) (call_from 100 []) 3
too_few = refl

wrong_type : refused_with (first_module ∷ []) (call_from 100 (I32 (pos 7) ∷ [])) 4
wrong_type = refl

-- ---- what is shown of the countdown after 0, 3 and 8 turns

abbrev contract_0 : Contract
contract_0 = record { number = 0; deployed = counts_down; version = Two }

abbrev after_moves : ℕ → Config
after_moves n = (walk (over_these (counts_down ∷ [])) 16 five n (start_at (first_level contract_0 0 (I64 (pos 2) ∷ [])))).config.inner.config

state_0 : place_of (after_moves 1) ≡ Some (0, 0)
unfolding walk reduce execute execute_plain
state_0 = refl

state_3 : place_of (after_moves 4) ≡ Some (0, 3)
unfolding walk reduce execute execute_plain
state_3 = refl

stack_3 : stack_of (after_moves 4) ≡ I64 (pos 2) ∷ I64 (pos 1) ∷ []
unfolding walk reduce execute execute_plain
stack_3 = refl

state_8 : place_of (after_moves 11) ≡ Some (0, 0)
unfolding walk reduce execute execute_plain
state_8 = refl

locals_8 : locals_of (after_moves 11) ≡ I64 (pos 1) ∷ []
unfolding walk reduce execute execute_plain
locals_8 = refl

-- the part that is taken of an `if` has its own ordinals
abbrev branching : Contract
branching = record {
  number = 0;
  deployed = one_function (record { params = []; results = [] }) (Plain (Const (I32 (pos 0))) ∷ If None (instrs_of (Plain (Const (I32 (pos 5))) ∷ [])) (instrs_of (Plain (Const (I32 (pos 6))) ∷ [])) ∷ Plain (Const (I32 (pos 7))) ∷ []);
  version = Two;
}

in_else : place_of (walk (over_these (branching.deployed ∷ [])) 16 five 3 (start_at (first_level branching 0 []))).config.inner.config ≡ Some (0, 3)
unfolding walk reduce execute execute_plain
in_else = refl

after_if : place_of (walk (over_these (branching.deployed ∷ [])) 16 five 5 (start_at (first_level branching 0 []))).config.inner.config ≡ Some (0, 4)
unfolding walk reduce execute execute_plain
after_if = refl
