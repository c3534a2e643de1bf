-- What a call found and left at each lock that it asked for (Dickerson, Gazzillo, Herlihy, Koskinen, "Adding Concurrency to Smart Contracts", PODC 2017, section 3: abstract locks; the read-write sets are own).
use Rattle.std.specs.Prelude.{◌≡◌, ◌≢◌, ℕ, Option, Some, List, [], ◌∷◌, All}
use Rattle.std.specs.FinMap.{get}
use Rattle.spec_ledger.specs.declared.Kind.{Kind}
use Rattle.spec_ledger.specs.declared.Kind.TheVariants.{Map, Counter}
use Rattle.spec_ledger.specs.declared.Lock.{Lock}
use Rattle.spec_ledger.specs.declared.Mode.{Mode}
use Rattle.spec_ledger.specs.declared.Mode.TheVariants.{Read as Reading, Add as Adding, Excl}
use Rattle.spec_ledger.specs.declared.Op.TheVariants.{Add}
use Rattle.spec_ledger.specs.declared.Receipt.{Receipt}
use Rattle.spec_ledger.specs.Cells.{Cells, AreCells, set_at, cells_after, number, subtracted}
use Rattle.spec_ledger.specs.Modes.{Modes}
use Rattle.spec_execution.specs.Configuration.{Setting}
use Rattle.spec_execution.specs.Run.{ContractCall}
use Rattle.spec_execution.specs.Exec.{Executes}
use Rattle.spec_execution.specs.declared.footprints.Access.{Access}
use Rattle.spec_execution.specs.declared.footprints.Access.TheVariants.{Read, Added, Replaced}

-- cells hold what the call found; what a counter holds that it only added to does not matter
abbrev pub Agrees : Cells → Access → Type 0
Agrees cells (Read lock cell) = get cells lock ≡ cell
Agrees cells (Added place amount) = Unit {0}
Agrees cells (Replaced lock before later) = get cells lock ≡ before

-- what an access leaves
abbrev pub left : Access → Cells → Cells
left (Read lock cell) cells = cells
left (Added place amount) cells = cells_after (Add place amount) cells
left (Replaced lock before later) cells = set_at cells lock later

abbrev pub all_left : List Access → Cells → Cells
all_left [] cells = cells
all_left (a ∷ more) cells = all_left more (left a cells)

-- a counter is not left at 0
abbrev pub LeavesACell : Access → Type 0
LeavesACell (Read lock cell) = Unit {0}
LeavesACell (Added place amount) = Unit {0}
LeavesACell (Replaced lock before later) = lock.kind ≡ Counter → later ≢ Some 0

-- Over any cells that agree with these accesses the call is executed with this receipt and these locks, and leaves what they leave.
pub record IsReadWriteSet (setting : Setting) (call : ContractCall) (accesses : List Access) (receipt : Receipt) (locks : Modes) : Type 0 where
  pub cells : All LeavesACell accesses
  pub executes : (cells : Cells) → AreCells cells → All (Agrees cells) accesses → Executes setting call cells (all_left accesses cells) receipt locks

-- how the cell at a lock that is held so was used: counters alone are added to
abbrev pub use_of : Kind → Mode → Mode
use_of kind Reading = Reading
use_of Counter Adding = Adding
use_of Map Adding = Excl
use_of kind Excl = Excl

-- what was done with a cell that held the one and holds the other
abbrev pub access_by : Mode → Lock → Option ℕ → Option ℕ → Access
access_by Reading lock before later = Read lock before
access_by Adding lock before later = Added (record { contract = lock.contract; key = lock.key }) (number (subtracted (number before) later))
access_by Excl lock before later = Replaced lock before later

abbrev pub access_at : Cells → Cells → Lock × Mode → Access
access_at before later held = access_by (use_of held.0.kind held.1) held.0 (get before held.0) (get later held.0)
