-- Serial execution: calls run one after another.
use Rattle.std.specs.Prelude.{◌≡◌, ℕ, List, [], ◌∷◌, Some, slice_get}
use Rattle.spec_ledger.specs.declared.Receipt.{Receipt}
use Rattle.spec_ledger.specs.Cells.{Cells}
use Rattle.spec_ledger.specs.Modes.{Modes}
use Rattle.spec_execution.specs.Configuration.{Setting}
use Rattle.spec_execution.specs.Run.{ContractCall}
use Rattle.spec_execution.specs.Exec.{Executes}

-- what the execution of a call came to: its receipt, and each lock that it asked for with the join of its modes
pub record CallResult : Type 0 where
  pub receipt : Receipt
  pub touched : Modes

-- The calls of these numbers, one after another, each over the cells that the one before left.
abbrev pub Serial : Setting → List ContractCall → List ℕ → Cells → List CallResult → Cells → Type 0
Serial setting calls [] cells [] last = last ≡ cells
Serial setting calls [] cells (r ∷ rs) last = ⊥
Serial setting calls (n ∷ order) cells [] last = ⊥
Serial setting calls (n ∷ order) cells (r ∷ rs) last =
    (call : ContractCall) × (next : Cells) × (slice_get calls n ≡ Some call)
    × Executes setting call cells next r.receipt r.touched × Serial setting calls order next rs last
