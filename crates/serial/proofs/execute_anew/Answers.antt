use Rattle.std.proofs.lemmas.Result.{IfOk-weaker, on_err_weaker}
use Rattle.std.proofs.Common.{sym, ◌∙◌}
use Rattle.serial.proofs.Ending.{may_end, ended, taken_back, executed_for}
use Rattle.interp.specs.Callee.{setting_view}
use Rattle.serial.proofs.execute_anew.Goals as goal

pub conclude-requires-clause-unsettled : goal.conclude-requires-clause-unsettled
conclude-requires-clause-unsettled g c = may_end c.args.over.now.cells c.play.new.over.cells c.in_ok-finished.finished.trace c.play.new.over.inverses.items c.in_ok-finished.ensures.ok.done c.requires

pub conclude-requires-clause-alone : goal.conclude-requires-clause-alone
conclude-requires-clause-alone g c = ended c.args.over.now.cells c.play.new.over.cells c.in_ok-finished.finished.trace c.play.new.over.inverses.items c.in_ok-finished.ensures.ok.done c.requires

pub returns-clause-executed : goal.returns-clause-executed
returns-clause-executed g c =
    IfOk-weaker c.conclude.result _ _
    (λ e h. executed_for (setting_view c.args.version c.args.contracts.now) c.args.call.now c.args.over.now.cells c.play.new.over.cells c.in_ok-finished.finished c.play.new.over.inverses.items c.in_ok-finished.ensures.ok c.conclude.new.cells.cells e.receipt e.touched
    (h c.in_ok-finished.finished c.is_played.ensures c.receipt.ensures c.trace.ensures c.args.over.now.cells c.in_ok-finished.ensures.ok.done c.requires c.use_invariant.ensures.cells))
    c.conclude.ensures.executed

pub returns-clause-settled : goal.returns-clause-settled
returns-clause-settled g c = c.conclude.ensures.unsettled

pub returns-clause-err : goal.returns-clause-err
returns-clause-err g c =
    let over = c.play.new.over in
    let closed = ended c.args.over.now.cells over.cells c.in_ok-finished.finished.trace over.inverses.items c.in_ok-finished.ensures.ok.done c.requires in
    on_err_weaker c.conclude.result
    (λ back. taken_back c.args.over.now.cells over.cells c.in_ok-finished.finished.trace over.inverses.items c.in_ok-finished.ensures.ok.done c.requires c.use_invariant.ensures.cells c.conclude.new.cells back (c.conclude.ensures.unsettled ∙ sym closed))
    c.conclude.ensures.err
