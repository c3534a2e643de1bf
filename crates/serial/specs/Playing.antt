-- How far a call has come over cells that answer its operations.
use Rattle.std.specs.Prelude.{◌≡◌, ℕ, List, length, map, reverse}
use Rattle.std.specs.FinMap.{empty}
use Rattle.spec_ledger.specs.declared.Inverse.{Inverse}
use Rattle.spec_ledger.specs.Cells.{AreCells}
use Rattle.spec_ledger.specs.Book.{after, standing, standing_at, GetsReplies, inverses_of}
use Rattle.storage.specs.Counts.{Store}
use Rattle.storage.specs.Counts.{opened_all}
use Rattle.spec_execution.specs.Configuration.{Setting}
use Rattle.spec_execution.specs.Run.{ContractCall}
use Rattle.interp.specs.FinishedCalls.{Played}
use Rattle.spec_ledger.specs.declared.TraceStep.{TraceStep}

-- the steps of a trace got their replies from the cells at the start, which they made these, and the inverses of what stands are these
pub record AreDone (start : Store) (trace : List TraceStep) (now : Store) (inverses : List Inverse) : Type 0 where
  pub replies : GetsReplies trace start.cells
  pub cells : now.cells ≡ after trace start.cells
  pub inverses_are : inverses ≡ inverses_of (standing trace) start.cells
  pub unsettled : now.unsettled ≡ opened_all inverses start.unsettled

-- some operations were done on the cells at the start, which have these inverses
pub record AreSomeDone (start now : Store) (inverses : List Inverse) : Type 0 where
  pub trace : List TraceStep
  pub done : AreDone start trace now inverses

-- The same, over cells in which nothing was unsettled. The marks are how many inverses there were where each open level was entered, the innermost last.
pub record AreDoneInLevels (start : Store) (trace : List TraceStep) (now : Store) (inverses : List Inverse) (marks : List ℕ) : Type 0 where
  pub settled : start.unsettled ≡ empty
  pub are : AreCells start.cells
  pub done : AreDone start trace now inverses
  pub marks_are : reverse marks ≡ map length (standing_at trace).marks

-- some steps were done, which have these inverses and marks
pub record MayBeLeft (now : Store) (inverses : List Inverse) (marks : List ℕ) : Type 0 where
  pub start : Store
  pub trace : List TraceStep
  pub done : AreDoneInLevels start trace now inverses marks

-- the run of a call over lent contracts, whose operations were done on these cells
pub record IsPlayedOver (setting : Setting) (call : ContractCall) (start : Store) (f : Played) (now : Store) (inverses : List Inverse) : Type 0 where
  pub lent : f.setting ≡ setting
  pub call_is : f.call ≡ call
  pub done : AreDone start f.trace now inverses
