-- What a call found at the locks that it touched, and what it has made of it.
use Rattle.std.specs.Prelude.{◌≡◌, ℕ, Option, Some, List, [], ◌∷◌, map, IsSome, if◌then◌else◌, Bool}
use Rattle.std.specs.FinMap.{FinMap, empty, entries, get}
use Rattle.spec_ledger.specs.declared.Inverse.{Inverse}
use Rattle.spec_ledger.specs.declared.Inverse.TheVariants.{Keep, Subtract, Restore}
use Rattle.spec_ledger.specs.declared.Kind.TheVariants.{Counter}
use Rattle.spec_ledger.specs.declared.Lock.{Lock}
use Rattle.spec_ledger.specs.declared.TraceStep.{TraceStep}
use Rattle.spec_ledger.specs.Cells.{Cells, IsCounter, lock_cmp, set_at, map_at, counter_at}
use Rattle.spec_ledger.specs.Modes.{Modes, touched}
use Rattle.spec_execution.specs.declared.footprints.Access.{Access}
use Rattle.spec_execution.specs.ReadWriteSets.{access_at, access_by, use_of}
use Rattle.spec_execution.specs.Configuration.{Setting}
use Rattle.spec_execution.specs.Run.{ContractCall}
use Rattle.interp.specs.FinishedCalls.{Played}
use Rattle.storage.specs.Counts.{Store, opened_all}
use Rattle.serial.specs.Playing.{AreDoneInLevels}
use Rattle.serial.specs.declared.touches.Touch.{Touch}

-- a lock holds this, or nothing: no counter is there with 0, and each is of 64 bits
abbrev pub IsCellAt : Lock → Option ℕ → Type 0
IsCellAt lock cell = lock.kind ≡ Counter → IsCounter cell

-- what touches have at their locks
abbrev pub what_in : {X : Type 0} → (Touch → Option X) → List (Lock × Touch) → FinMap lock_cmp X
what_in f [] = empty
what_in f (e ∷ es) = set_at (what_in f es) e.0 (f e.1)

-- what was found there, what is there now, and how it was asked for
abbrev pub found_in : List (Lock × Touch) → Cells
found_in es = what_in (λ t. t.found) es

abbrev pub later_in : List (Lock × Touch) → Cells
later_in es = what_in (λ t. t.later) es

abbrev pub modes_of : List (Lock × Touch) → Modes
modes_of es = what_in (λ t. Some t.mode) es

-- cells in which the changes of these inverses are unsettled
abbrev pub with_changes : Cells → List Inverse → Store
with_changes cells inverses = record { cells = cells; unsettled = opened_all inverses empty }

-- The touches are of the locks that a trace asked for. Over the cells that were found there it got its replies, and it made them those that are there now.
pub record AreTouchesOf (trace : List TraceStep) (touches : List (Lock × Touch)) (inverses : List Inverse) (marks : List ℕ) : Type 0 where
  pub done : AreDoneInLevels (with_changes (found_in touches) []) trace (with_changes (later_in touches) inverses) inverses marks
  pub modes : modes_of touches ≡ touched trace

-- they are of some trace
pub record AreTouches (touches : List (Lock × Touch)) (inverses : List Inverse) (marks : List ℕ) : Type 0 where
  pub trace : List TraceStep
  pub are : AreTouchesOf trace touches inverses marks

-- the lock of what is to be taken back was touched
abbrev pub IsTouched : Modes → Inverse → Type 0
IsTouched modes Keep = Unit {0}
IsTouched modes (Subtract p v) = IsSome (get modes (counter_at p))
IsTouched modes (Restore p c) = IsSome (get modes (map_at p))

-- what was found at each touched lock may be read there
abbrev pub AreFoundBy : (Lock → Option ℕ → Type 0) → List (Lock × Touch) → Type 0
AreFoundBy may_read touches = (lock : Lock) → IsSome (get (modes_of touches) lock) → may_read lock (get (found_in touches) lock)

-- they are of this one
pub record WereTouchedBy (trace : List TraceStep) (touches : List (Lock × Touch)) : Type 0 where
  pub inverses : List Inverse
  pub marks : List ℕ
  pub are : AreTouchesOf trace touches inverses marks

-- the run of a call over lent contracts, which touched these
pub record IsPlayedBeside (setting : Setting) (call : ContractCall) (f : Played) (touches : List (Lock × Touch)) : Type 0 where
  pub lent : f.setting ≡ setting
  pub call_is : f.call ≡ call
  pub touched : WereTouchedBy f.trace touches

-- what a call did with the cell of a touch, whose changes stand or do not
abbrev pub access_of : Bool → Lock × Touch → Access
access_of stand e = access_by (use_of e.0.kind e.1.mode) e.0 e.1.found (if stand then e.1.later else e.1.found)

-- The accesses are what a call did with the cells at these locks, in their order, between the ones that it found and others.
pub record AreAccessesAt (locks : Modes) (accesses : List Access) : Type 0 where
  pub found : Cells
  pub later : Cells
  pub are : accesses ≡ map (access_at found later) (entries locks)
