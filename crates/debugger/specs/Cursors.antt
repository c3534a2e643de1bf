-- What a call that is run turn by turn keeps.
use Rattle.std.specs.Prelude.{◌≡◌, ℕ, ◌+◌, ◌<◌, List, [], ◌++◌}
use Rattle.spec_ledger.specs.declared.Inverse.{Inverse}
use Rattle.spec_ledger.specs.declared.TraceStep.{TraceStep}
use Rattle.spec_ledger.specs.Cells.{Cells, cells_after}
use Rattle.spec_ledger.specs.Book.{unmarked, folded, GetsReplies}
use Rattle.spec_execution.specs.Configuration.{Setting}
use Rattle.spec_execution.specs.Run.{ContractCall, opening, Opens}
use Rattle.spec_execution.specs.Levels.{Levels, On, move, first_level}
use Rattle.spec_execution.specs.CallStates.{FreeMoves, IsAnswered, Turned}
use Rattle.interp.specs.Progress.{Progress, GoesOn, Pauses, IsSameCall}
use Rattle.debugger.specs.declared.cursor.Cursor.{Cursor}
use Rattle.debugger.specs.Undoing.{AreNoted}

-- Cells that answered the operations of a trace, from these at the start on, and what takes its open levels back: they are those that stand.
pub record HasAnswered (trace : List TraceStep) (start now : Cells) (inverses : List Inverse) (marks : List ℕ) : Type 0 where
  pub replies : GetsReplies trace start
  pub noted : AreNoted inverses marks now (folded cells_after trace (unmarked start))

-- a machine after so many turns as fuel is used
pub record HasTurned (p : Progress) : Type 0 where
  pub opens : opening p.setting p.call ≡ Opens p.contract p.func
  pub turned : Turned p.setting (first_level p.contract p.func p.call.args) p.call.fuel p.used p.trace p.config
  pub goes_on : GoesOn p.status

abbrev pub AreCellsOf : {A : Type 0} → Cursor A → Type 0
AreCellsOf c = HasAnswered c.machine.trace c.start.now.cells c.cells.cells c.undo.inverses.items c.undo.marks.items

pub record IsAt {A : Type 0} (c : Cursor A) : Type 0 where
  pub turns : HasTurned c.machine
  pub cells : AreCellsOf c

-- In a turn that began with the first: its charged move is made, and the host's reply to it if any, and free ones, up to where an instruction is to come, the run has ended, or a level is left.
pub record HasBegun (p q : Progress) : Type 0 where
  pub same : IsSameCall p q
  pub below : p.used < p.call.fuel
  pub used : q.used ≡ p.used + 1
  pub charged : Levels
  pub one : move p.setting p.config ≡ On 1 [] charged
  pub reply : List TraceStep
  pub replied : Levels
  pub answer : IsAnswered p.setting charged reply replied
  pub marks : List TraceStep
  pub free : FreeMoves p.setting replied marks q.config
  pub trace : q.trace ≡ p.trace ++ (reply ++ marks)
  pub pauses : Pauses q.setting q.config
  pub goes_on : GoesOn q.status

pub record IsInTurn {A : Type 0} (p : Progress) (c : Cursor A) : Type 0 where
  pub begun : HasBegun p c.machine
  pub cells : AreCellsOf c

-- the same call over the same cells
pub record IsSameRun {A : Type 0} (c d : Cursor A) : Type 0 where
  pub call : IsSameCall c.machine d.machine
  pub start : d.start.now ≡ c.start.now

pub record IsCopy {A : Type 0} (c d : Cursor A) : Type 0 where
  pub machine : d.machine ≡ c.machine
  pub cells : d.cells.cells ≡ c.cells.cells
  pub inverses : d.undo.inverses.items ≡ c.undo.inverses.items
  pub marks : d.undo.marks.items ≡ c.undo.marks.items
  pub start : d.start.now ≡ c.start.now

-- the call before its first turn
pub record IsOpened {A : Type 0} (setting : Setting) (call : ContractCall) (start : Cells) (c : Cursor A) : Type 0 where
  pub setting_is : c.machine.setting ≡ setting
  pub call_is : c.machine.call ≡ call
  pub cells : c.start.now.cells ≡ start
  pub none : c.machine.used ≡ 0
