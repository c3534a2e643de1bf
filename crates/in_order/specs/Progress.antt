-- What the calls of the first positions of an order came to.
use Rattle.std.specs.Prelude.{◌≡◌, ◌<◌, ◌≤◌, ℕ, List, All, Some, length, slice_get, take}
use Rattle.std.specs.FinMap.{empty}
use Rattle.spec_ledger.specs.Cells.{Cells}
use Rattle.spec_execution.specs.Configuration.{Setting}
use Rattle.spec_execution.specs.Run.{ContractCall}
use Rattle.spec_execution.specs.Serial.{Serial}
use Rattle.interp.specs.Callee.{setting_view}
use Rattle.interp.specs.FinishedCalls.{Played}
use Rattle.serial.specs.Positions.{results_of}
use Rattle.serial.specs.Runs.{IsRunOf}
use Rattle.in_order.specs.declared.InOrder.{InOrder}
use Rattle.in_order.specs.declared.OrderProgress.{OrderProgress}

-- the first calls of an order, one after another from these cells on
pub record IsRan {A : Type 0} (setting : Setting) (calls : List ContractCall) (order : List ℕ) (cells : Cells) (r : OrderProgress A) : Type 0 where
  pub serial : Serial setting calls (take (length r.receipts.items) order) cells (results_of r.receipts.items r.touched.items) r.cells.cells
  pub touched : length r.touched.items ≡ length r.receipts.items
  pub within : length r.receipts.items ≤ length order
  pub settled : r.cells.unsettled ≡ empty
  pub ahead : r.ahead ≤ length r.receipts.items

abbrev pub IsProgressOf : {A P : Type 0} → InOrder A P → OrderProgress A → Type 0
IsProgressOf job r = IsRan (setting_view job.task.version job.task.contracts.now) job.task.calls.now job.order.now job.cells.now.cells r

-- each number of an order is a call's, and there are at most 65535
pub record AreKnown (calls : List ContractCall) (order : List ℕ) : Type 0 where
  pub known : All (λ number. number < length calls) order
  pub few : length order ≤ 65535

abbrev pub IsKnown : {A P : Type 0} → InOrder A P → Type 0
IsKnown job = AreKnown job.task.calls.now job.order.now

-- a run of the call that is next
abbrev pub IsNextRun : {A P : Type 0} → InOrder A P → OrderProgress A → Played → Type 0
IsNextRun job r f =
    (number : ℕ) → slice_get job.order.now (length r.receipts.items) ≡ Some number
    → IsRunOf (setting_view job.task.version job.task.contracts.now) job.task.calls.now number f
