-- The end of a call: its changes stand, or the cells are as they were.
use Rattle.std.proofs.Common.{◌≡◌, ℕ, Bool, true, false, cond, List, Some, slice_get, IfOk, sym, ◌∙◌, ap, subst}
use Rattle.std.specs.Prelude.{Result, Ok, Err, OnErr}
use Rattle.std.specs.FinMap.{empty}
use Rattle.spec_ledger.specs.declared.Inverse.{Inverse}
use Rattle.spec_ledger.specs.declared.Receipt.{Receipt}
use Rattle.spec_ledger.specs.declared.TraceStep.{TraceStep}
use Rattle.spec_ledger.specs.Cells.{Cells, AreCells}
use Rattle.spec_ledger.specs.Modes.{Modes, touched}
use Rattle.spec_ledger.specs.Book.{after, standing, inverses_of, back_all, has_returned}
use Rattle.spec_ledger.proofs.Traces.{after-standing, back_all-inverses}
use Rattle.storage.specs.Counts.{Store}
use Rattle.storage.specs.Counts.{opened_all, closed_all, AreUnsettled}
use Rattle.storage.proofs.Counted.{AreCounts-empty, AreUnsettled-opened_all, closed_all-opened_all}
use Rattle.spec_execution.specs.Configuration.{Setting}
use Rattle.spec_execution.specs.Run.{ContractCall}
use Rattle.spec_execution.specs.Levels.{RunsWith}
use Rattle.spec_execution.specs.Exec.{Executes}
use Rattle.interp.specs.FinishedCalls.{Played, IsPlayed, receipt_of}
use Rattle.serial.specs.Playing.{AreDone, IsPlayedOver}
use Rattle.serial.specs.Runs.{IsRunOf}

module _ (start now : Store) (t : List TraceStep) (is : List Inverse) (d : AreDone start t now is) (settled : start.unsettled ≡ empty) where
  counted : now.unsettled ≡ opened_all is empty
  counted = d.unsettled ∙ ap (opened_all is) settled

  pub may_end : AreUnsettled is now.unsettled
  may_end = subst (AreUnsettled is) (sym counted) (AreUnsettled-opened_all is empty AreCounts-empty)

  pub ended : closed_all is now.unsettled ≡ empty
  ended = ap (closed_all is) counted ∙ closed_all-opened_all is empty AreCounts-empty

  pub undone : AreCells start.cells → back_all is now.cells ≡ start.cells
  undone are =
      (λ k. back_all (d.inverses_are k) (d.cells k)) ∙ ap (back_all (inverses_of (standing t) start.cells)) (after-standing t start.cells)
      ∙ back_all-inverses (standing t) start.cells are

  pub taken_back : AreCells start.cells → (later : Store) → later.cells ≡ back_all is now.cells → later.unsettled ≡ closed_all is now.unsettled → later ≡ start
  taken_back are later cells counts =
      let cells_are : later.cells ≡ start.cells = cells ∙ undone are in
      let counts_are : later.unsettled ≡ start.unsettled = counts ∙ ended ∙ sym settled in
      λ k. record { cells = cells_are k; unsettled = counts_are k }

  pub left_is : AreCells start.cells → (b : Bool) → cond b now.cells (back_all is now.cells) ≡ cond b (after t start.cells) start.cells
  left_is are true = d.cells
  left_is are false = undone are

module _ (lent : Setting) (call : ContractCall) (start now : Store) (f : Played) (is : List Inverse) (p : IsPlayedOver lent call start f now is) (run : IsPlayed f) (settled : start.unsettled ≡ empty) (are : AreCells start.cells) where
  pub executed : (r : Receipt) → r ≡ receipt_of f → (stand : Bool) → stand ≡ has_returned r.outcome → (later : Cells) → later ≡ cond stand now.cells (back_all is now.cells)
      → (t : List TraceStep) → t ≡ f.trace → (locks : Modes) → locks ≡ touched t → Executes lent call start.cells later r locks
  executed r r_is stand stand_is later later_is t t_is locks locks_are = record {
    trace = f.trace;
    run = subst (λ (x : Receipt). RunsWith lent call f.trace x.outcome x.used) (sym r_is)
        (subst (λ c. RunsWith lent c f.trace f.outcome f.used) p.call_is (subst (λ ds. RunsWith ds f.call f.trace f.outcome f.used) p.lent run));
    asks = ap (λ (x : Receipt). x.asks) r_is;
    replies = p.done.replies;
    later_is = later_is ∙ ap (λ b. cond b now.cells (back_all is now.cells)) stand_is ∙ left_is start now f.trace is p.done settled are (has_returned r.outcome);
    locks_are = locks_are ∙ ap touched t_is;
  }

pub executed_for : (lent : Setting) (call : ContractCall) (start now : Store) (f : Played) (is : List Inverse) → IsPlayedOver lent call start f now is → (later : Cells) (r : Receipt) (locks : Modes)
    → Executes f.setting f.call start.cells later r locks → Executes lent call start.cells later r locks
executed_for lent call start now f is p later r locks e = subst (λ c. Executes lent c start.cells later r locks) p.call_is (subst (λ ds. Executes ds f.call start.cells later r locks) p.lent e)

-- what was played of the call of this number is a run of it
pub is_run : {E : Type 0} (r : Result Played E) (setting : Setting) (calls : List ContractCall) (number : ℕ) (call : ContractCall)
    → IfOk r (λ f. f.setting ≡ setting) → IfOk r (λ f. f.call ≡ call) → slice_get calls number ≡ Some call → IfOk r (IsRunOf setting calls number)
is_run (Ok f) setting calls number call l c at = record { lent = l; call_is = at ∙ ap (λ x. Some x) (sym c) }
is_run (Err e) setting calls number call l c at = tt

pub on_err : {T E P : Type 0} (r : Result T E) → P → OnErr r P
on_err (Ok x) p = tt
on_err (Err e) p = p
