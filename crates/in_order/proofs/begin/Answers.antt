use Rattle.interp.specs.Callee.{setting_view}
use Rattle.in_order.proofs.OneMore.{ran_none}
use Rattle.in_order.proofs.begin.Goals as goal

pub returns-clause-ran : goal.returns-clause-ran
returns-clause-ran g c =
    let job = c.args.job.now in
    ran_none (setting_view job.task.version job.task.contracts.now) job.task.calls.now job.order.now job.cells.now.cells _ c.new.ensures.items c.new-2.ensures.items c.in_ok-copy.ensures.cells c.in_ok-copy.ensures.unsettled (λ k. 0)
