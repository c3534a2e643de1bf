-- Over given cells a call has one execution, and an order of calls one serial execution.
use Rattle.std.specs.Prelude.{◌≡◌, ℕ, ◌<◌, List, length, All}
use Rattle.spec_ledger.specs.declared.Receipt.{Receipt}
use Rattle.spec_ledger.specs.Cells.{Cells}
use Rattle.spec_ledger.specs.Modes.{Modes}
use Rattle.spec_execution.specs.Configuration.{Setting}
use Rattle.spec_execution.specs.Run.{ContractCall}
use Rattle.spec_execution.specs.Exec.{Executes}
use Rattle.spec_execution.specs.Serial.{CallResult, Serial}

-- each number is that of a call
abbrev pub AreNumbersOf : List ContractCall → List ℕ → Type 0
AreNumbersOf calls order = All (λ n. n < length calls) order

-- the call has an execution over these cells, and no other
pub record ExecutesOnce (setting : Setting) (call : ContractCall) (cells : Cells) : Type 0 where
  pub later : Cells
  pub receipt : Receipt
  pub locks : Modes
  pub executes : Executes setting call cells later receipt locks
  pub only : (later' : Cells) (receipt' : Receipt) (locks' : Modes) → Executes setting call cells later' receipt' locks' → (later' ≡ later) × (receipt' ≡ receipt) × (locks' ≡ locks)

-- the order has a serial execution from these cells, and no other
pub record RunsSerially (setting : Setting) (calls : List ContractCall) (order : List ℕ) (cells : Cells) : Type 0 where
  pub ran : List CallResult
  pub last : Cells
  pub serial : Serial setting calls order cells ran last
  pub only : (ran' : List CallResult) (last' : Cells) → Serial setting calls order cells ran' last' → (ran' ≡ ran) × (last' ≡ last)
