-- Worked examples of memory, the table and the start function, which compute.
use Rattle.std.proofs.Common.{◌≡◌, ℕ, List, [], ◌∷◌, Option, Some, None, refl, pos, negsuc, true}
use Rattle.wtypes.specs.declared.ValType.TheVariants as valtype
use Rattle.wtypes.specs.declared.Value.TheVariants.{I32, I64}
use Rattle.wtypes.specs.declared.LoadOp.TheVariants.{I32Load}
use Rattle.wtypes.specs.declared.StoreOp.TheVariants.{I64Store}
use Rattle.wtypes.specs.declared.TrapCode.TheVariants as trap
use Rattle.wtypes.specs.declared.PlainInstr.TheVariants.{Unreachable, Const, CallIndirect, Load, Store, MemoryGrow, GlobalGet, GlobalSet, Select}
use Rattle.spec_modules.specs.Syntax.{Instr, Plain, BrTable, Block, nothing, instrs_of, Module, Func, ExportFunc}
use Rattle.spec_ledger.specs.declared.Outcome.{Outcome}
use Rattle.spec_ledger.specs.declared.Outcome.TheVariants.{Returned, Trapped}
use Rattle.spec_execution.specs.Reduction.{reduce, execute, execute_plain, loaded, stored, grown}
use Rattle.spec_execution.specs.Walk.{report, walk}
use Rattle.spec_execution.proofs.Rows.{no_module, run, over_these, five, call_from}

abbrev const : ℕ → Instr
const n = Plain (Const (I32 (pos n)))

abbrev nullary : List Instr → Func
nullary body = record { type_index = 0; locals = []; body = instrs_of body }

-- a module of these functions, the first of which is run
abbrev with_functions : List Func → Module
with_functions fs = record no_module {
  types = record { params = []; results = valtype.I32 ∷ [] } ∷ record { params = []; results = [] } ∷ [];
  funcs = fs;
  exports = record { name = run; desc = ExportFunc 0 } ∷ [];
}

abbrev ends_so : Module → Outcome → ℕ → Type 0
ends_so m outcome fuel = report 100 (over_these (record { tree = m; hosts = [] } ∷ [])) five (call_from 100 []) ≡ record { at_end = true; outcome = outcome; fuel = fuel; trace = [] }

abbrev in_pages : ℕ → Option ℕ → List Instr → Module
in_pages min max body = record (with_functions (nullary body ∷ [])) { memories = record { min = min; max = max } ∷ [] }

-- an address with its offset does not wrap
outside : ends_so (in_pages 1 None (const 1 ∷ Plain (Load I32Load 2 4294967295) ∷ [])) (Trapped trap.MemoryOutOfBounds) 2
unfolding walk reduce execute execute_plain loaded
outside = refl

-- growth to the declared maximum
grows : ends_so (in_pages 1 (Some 2) (const 1 ∷ Plain MemoryGrow ∷ [])) (Returned (Some (I32 (pos 1)))) 2
unfolding walk reduce execute execute_plain grown
grows = refl

grows_no_more : ends_so (in_pages 2 (Some 2) (const 1 ∷ Plain MemoryGrow ∷ [])) (Returned (Some (I32 (negsuc 0)))) 2
unfolding walk reduce execute execute_plain grown
grows_no_more = refl

-- a store over a page border
across : ends_so (in_pages 2 None (const 65532 ∷ Plain (Const (I64 (pos 72623859790382856))) ∷ Plain (Store I64Store 3 0) ∷ const 65536 ∷ Plain (Load I32Load 2 0) ∷ [])) (Returned (Some (I32 (pos 16909060)))) 5
unfolding walk reduce execute execute_plain loaded stored
across = refl

lower_half : ends_so (in_pages 2 None (const 65532 ∷ Plain (Const (I64 (pos 72623859790382856))) ∷ Plain (Store I64Store 3 0) ∷ const 65532 ∷ Plain (Load I32Load 2 0) ∷ [])) (Returned (Some (I32 (pos 84281096)))) 5
unfolding walk reduce execute execute_plain loaded stored
lower_half = refl

-- the first of two values where the third is not 0
selects : ends_so (with_functions (nullary (const 5 ∷ const 6 ∷ const 1 ∷ Plain Select ∷ []) ∷ [])) (Returned (Some (I32 (pos 5)))) 4
unfolding walk reduce execute execute_plain
selects = refl

-- a branch out of a block takes its topmost value and drops the others
branches : ends_so (with_functions (nullary (Block (Some valtype.I32) (instrs_of (const 5 ∷ const 6 ∷ const 9 ∷ BrTable (1 ∷ []) 0 ∷ [])) ∷ []) ∷ [])) (Returned (Some (I32 (pos 6)))) 5
unfolding walk reduce execute execute_plain
branches = refl

-- calls by the table: its second element is a function of another type, its third is empty, there is no fourth
abbrev by_table : ℕ → Module
by_table n = record (with_functions (nullary (const n ∷ Plain (CallIndirect 0) ∷ []) ∷ nullary (const 7 ∷ []) ∷ record { type_index = 1; locals = []; body = nothing } ∷ [])) {
  tables = record { min = 3; max = None } ∷ [];
  elements = record { table = 0; offset = instrs_of (const 0 ∷ []); funcs = 1 ∷ 2 ∷ [] } ∷ [];
}

called : ends_so (by_table 0) (Returned (Some (I32 (pos 7)))) 3
unfolding walk reduce execute execute_plain
called = refl

other_type : ends_so (by_table 1) (Trapped trap.TypeMismatch) 2
unfolding walk reduce execute execute_plain
other_type = refl

no_element : ends_so (by_table 2) (Trapped trap.EmptyElement) 2
unfolding walk reduce execute execute_plain
no_element = refl

past_table : ends_so (by_table 3) (Trapped trap.ElementOutOfTable) 2
unfolding walk reduce execute execute_plain
past_table = refl

-- the start function runs first, on the same fuel
abbrev with_start : List Instr → Module
with_start body = record (with_functions (nullary (Plain (GlobalGet 0) ∷ []) ∷ record { type_index = 1; locals = []; body = instrs_of body } ∷ [])) {
  globals = record { type = record { type = valtype.I32; is_mutable = true }; init = instrs_of (const 1 ∷ []) } ∷ [];
  start = Some 1;
}

started : ends_so (with_start (const 8 ∷ Plain (GlobalSet 0) ∷ [])) (Returned (Some (I32 (pos 8)))) 3
unfolding walk reduce execute execute_plain
started = refl

start_traps : ends_so (with_start (Plain Unreachable ∷ [])) (Trapped trap.Unreachable) 1
unfolding walk reduce execute execute_plain
start_traps = refl
