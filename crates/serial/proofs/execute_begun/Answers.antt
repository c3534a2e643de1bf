use Rattle.std.proofs.Common.{sym, ◌∙◌, subst}
use Rattle.std.proofs.lemmas.Result.{IfOk-weaker, on_err_weaker}
use Rattle.spec_execution.specs.Configuration.{Setting}
use Rattle.spec_execution.specs.Run.{ContractCall}
use Rattle.spec_execution.specs.Exec.{Executes}
use Rattle.interp.specs.Progress.{played_of}
use Rattle.serial.proofs.Ending.{may_end, ended, taken_back}
use Rattle.serial.proofs.MachineProgress.{not_unfinished}
use Rattle.serial.proofs.execute_begun.Goals as goal

pub conclude-requires-clause-unsettled : goal.conclude-requires-clause-unsettled
conclude-requires-clause-unsettled g c = may_end c.args.over.now.cells c.run_in.new.over.cells c.run_in.new.machine.trace c.run_in.new.over.inverses.items c.in_ok-run_in.ensures.done c.requires.settled

pub conclude-requires-clause-alone : goal.conclude-requires-clause-alone
conclude-requires-clause-alone g c = ended c.args.over.now.cells c.run_in.new.over.cells c.run_in.new.machine.trace c.run_in.new.over.inverses.items c.in_ok-run_in.ensures.done c.requires.settled

pub unreachable-requires : goal.unreachable-requires
unreachable-requires g c = not_unfinished c.run_in.new.machine.status c.in_ok-run_in.ensures.ended c.in-None.ensures.none

pub returns-clause-executed : goal.returns-clause-executed
returns-clause-executed g c =
    let start = c.args.machine.now in
    let machine = c.run_in.new.machine in
    let came = c.in-Some.ensures.some in
    let same = c.in_ok-run_in.ensures.same in
    let before = c.args.over.now.cells in
    IfOk-weaker c.conclude.result _ _
    (λ e h.
    subst (λ (s : Setting). Executes s start.call before.cells c.conclude.new.cells.cells e.receipt e.touched) same.setting
    (subst (λ (k : ContractCall). Executes machine.setting k before.cells c.conclude.new.cells.cells e.receipt e.touched) same.call
    (h (played_of machine c.in-Some.receipt.outcome) came.played came.receipt c.trace.ensures before c.in_ok-run_in.ensures.done c.requires.settled c.use_invariant.ensures.cells)))
    c.conclude.ensures.executed

pub returns-clause-err : goal.returns-clause-err
returns-clause-err g c =
    let before = c.args.over.now.cells in
    let over = c.run_in.new.over in
    let done = c.in_ok-run_in.ensures.done in
    let closed = ended before over.cells c.run_in.new.machine.trace over.inverses.items done c.requires.settled in
    on_err_weaker c.conclude.result
    (λ back. taken_back before over.cells c.run_in.new.machine.trace over.inverses.items done c.requires.settled c.use_invariant.ensures.cells c.conclude.new.cells back (c.conclude.ensures.unsettled ∙ sym closed))
    c.conclude.ensures.err
