use Rattle.std.proofs.Common.{sym, ◌∙◌}
use Rattle.serial.proofs.Ending.{may_end, ended, taken_back}
use Rattle.serial.proofs.run_alone_over.Goals as goal

pub end_alone-requires-clause-unsettled : goal.end_alone-requires-clause-unsettled
end_alone-requires-clause-unsettled g c = may_end c.args.over.now.cells c.play.new.over.cells c.in_ok-finished.finished.trace c.play.new.over.inverses.items c.in_ok-finished.ensures.ok.done c.requires

pub end_alone-requires-clause-alone : goal.end_alone-requires-clause-alone
end_alone-requires-clause-alone g c = ended c.args.over.now.cells c.play.new.over.cells c.in_ok-finished.finished.trace c.play.new.over.inverses.items c.in_ok-finished.ensures.ok.done c.requires

pub returns-clause-cells : goal.returns-clause-cells
returns-clause-cells g c =
    let over = c.play.new.over in
    let done = c.in_ok-finished.ensures.ok.done in
    let closed = ended c.args.over.now.cells over.cells c.in_ok-finished.finished.trace over.inverses.items done c.requires in
    taken_back c.args.over.now.cells over.cells c.in_ok-finished.finished.trace over.inverses.items done c.requires c.use_invariant.ensures.cells c.end_alone.new.cells c.end_alone.ensures.cells (c.end_alone.ensures.unsettled ∙ sym closed)
