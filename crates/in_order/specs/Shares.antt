-- Calls that were run ahead of their turn, with their read-write sets.
use Rattle.std.specs.Prelude.{◌≡◌, ◌-◌, ◌≤◌, ℕ, List, All, drop, length, take}
use Rattle.spec_execution.specs.Configuration.{Setting}
use Rattle.spec_execution.specs.Run.{ContractCall}
use Rattle.spec_execution.specs.declared.footprints.Access.{Access}
use Rattle.interp.specs.Callee.{setting_view}
use Rattle.serial.specs.Calls.{IsFootprintOf}
use Rattle.in_order.specs.declared.speculative_run.SpeculativeRun.{SpeculativeRun}
use Rattle.in_order.specs.declared.speculative_run.SpeculativeRuns.{SpeculativeRuns}
use Rattle.in_order.specs.declared.Task.{Task}

-- a call's own part of the accesses
abbrev pub read_write_set_of : {A : Type 0} → List Access → SpeculativeRun A → List Access
read_write_set_of accesses p = take (p.until - p.from) (drop p.from accesses)

-- that part is a read-write set of the call
pub record IsSpeculativeRun {A : Type 0} (setting : Setting) (calls : List ContractCall) (accesses : List Access) (p : SpeculativeRun A) : Type 0 where
  pub begins : p.from ≤ p.until
  pub ends : p.until ≤ length accesses
  pub read_write_set : IsFootprintOf setting calls p.call (read_write_set_of accesses p) p.executed

abbrev pub IsPreparedOf : {A : Type 0} → Task A → List Access → SpeculativeRun A → Type 0
IsPreparedOf task accesses p = IsSpeculativeRun (setting_view task.version task.contracts.now) task.calls.now accesses p

abbrev pub AreAllPrepared : {A : Type 0} → Setting → List ContractCall → List Access → List (SpeculativeRun A) → Type 0
AreAllPrepared setting calls accesses ps = All (IsSpeculativeRun setting calls accesses) ps

-- what was run are calls of the task, with their read-write sets
abbrev pub AreSpeculativeRunsOf : {A : Type 0} → Task A → SpeculativeRuns A → Type 0
AreSpeculativeRunsOf task s = AreAllPrepared (setting_view task.version task.contracts.now) task.calls.now s.accesses.items s.prepared.items
