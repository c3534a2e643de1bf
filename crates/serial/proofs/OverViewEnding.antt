-- The read-write set of a run that touched cells.
use Rattle.std.proofs.Common.{◌≡◌, Bool, cond, List, [], ◌++◌, drop, length, refl, sym, ◌∙◌, ap}
use Rattle.std.proofs.Math.Seq.{drop-append_seam}
use Rattle.spec_ledger.specs.declared.Lock.{Lock}
use Rattle.spec_ledger.specs.declared.Receipt.{Receipt}
use Rattle.spec_ledger.specs.Cells.{AreCells}
use Rattle.spec_ledger.specs.Modes.{Modes}
use Rattle.spec_ledger.specs.Book.{has_returned}
use Rattle.spec_execution.specs.Configuration.{Setting}
use Rattle.spec_execution.specs.Run.{ContractCall}
use Rattle.spec_execution.specs.Exec.{Executes}
use Rattle.interp.specs.FinishedCalls.{Played, IsPlayed, receipt_of}
use Rattle.serial.proofs.Ending.{executed, undone}
use Rattle.serial.specs.declared.touches.Touch.{Touch}
use Rattle.serial.specs.Behind.{behind}
use Rattle.serial.specs.Touches.{IsPlayedBeside, found_in, later_in, modes_of, with_changes}

module _ (setting : Setting) (call : ContractCall) (f : Played) (es : List (Lock × Touch)) (p : IsPlayedBeside setting call f es) where
  pub found_are : AreCells (found_in es)
  found_are = p.touched.are.done.are

  -- over the cells that were found the call is executed, and leaves those that are there now
  pub executed_beside : IsPlayed f → (r : Receipt) → r ≡ receipt_of f → (stand : Bool) → stand ≡ has_returned r.outcome → (locks : Modes) → locks ≡ modes_of es
      → Executes setting call (found_in es) (cond stand (later_in es) (found_in es)) r locks
  executed_beside run r r_is stand stand_is locks locks_are =
      let b = p.touched in
      let start = with_changes (found_in es) [] in
      let now = with_changes (later_in es) b.inverses in
      executed setting call start now f b.inverses (record { lent = p.lent; call_is = p.call_is; done = b.are.done.done }) run refl b.are.done.are
      r r_is stand stand_is (cond stand (later_in es) (found_in es)) (ap (λ m. cond stand (later_in es) m) (sym (undone start now f.trace b.inverses b.are.done.done refl b.are.done.are)))
      f.trace refl locks (locks_are ∙ b.are.modes)

-- what is put behind a list is what it has behind it
pub behind_is : {X : Type 0} (old new more : List X) → new ≡ old ++ more → behind old new ≡ more
behind_is old new more e = ap (drop (length old)) e ∙ drop-append_seam old more

pub put_behind : {X : Type 0} (old new more : List X) → new ≡ old ++ more → new ≡ old ++ behind old new
put_behind old new more e = e ∙ ap (λ l. old ++ l) (sym (behind_is old new more e))
