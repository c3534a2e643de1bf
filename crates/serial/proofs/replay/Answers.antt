use Rattle.std.proofs.Common.{sym, ◌∙◌}
use Rattle.serial.proofs.Ending.{may_end, ended, taken_back, on_err}
use Rattle.serial.proofs.replay.Goals as goal

pub conclude-requires-clause-unsettled : goal.conclude-requires-clause-unsettled
conclude-requires-clause-unsettled g c = let some = c.act_again.ensures.some in may_end c.args.cells.now c.act_again.new.cells some.trace c.act_again.new.inverses.items some.done c.requires

pub conclude-requires-clause-alone : goal.conclude-requires-clause-alone
conclude-requires-clause-alone g c = let some = c.act_again.ensures.some in ended c.args.cells.now c.act_again.new.cells some.trace c.act_again.new.inverses.items some.done c.requires

pub end_all-requires : goal.end_all-requires
end_all-requires g c = let some = c.act_again.ensures.some in may_end c.args.cells.now c.act_again.new.cells some.trace c.act_again.new.inverses.items some.done c.requires

pub end_all-requires-in-Err : goal.end_all-requires-in-Err
end_all-requires-in-Err g c = let some = c.act_again.ensures.some in may_end c.args.cells.now c.act_again.new.cells some.trace c.act_again.new.inverses.items some.done c.requires

pub returns-in_err-executed-in-Ok-true-clause-settled : goal.returns-in_err-executed-in-Ok-true-clause-settled
returns-in_err-executed-in-Ok-true-clause-settled g c = c.conclude.ensures.unsettled

pub returns-in_err-executed-in-Ok-true-clause-err : goal.returns-in_err-executed-in-Ok-true-clause-err
returns-in_err-executed-in-Ok-true-clause-err g c =
    let some = c.act_again.ensures.some in
    let closed = ended c.args.cells.now c.act_again.new.cells some.trace c.act_again.new.inverses.items some.done c.requires in
    on_err c.from_residual.result (taken_back c.args.cells.now c.act_again.new.cells some.trace c.act_again.new.inverses.items some.done c.requires c.use_invariant.ensures.cells c.conclude.new.cells
    c.in_err-executed-in-Ok-true.ensures.err (c.conclude.ensures.unsettled ∙ sym closed))

pub returns-in_ok-executed-in-Ok-true-clause-settled : goal.returns-in_ok-executed-in-Ok-true-clause-settled
returns-in_ok-executed-in-Ok-true-clause-settled g c = c.conclude.ensures.unsettled

pub returns-in-Ok-false-clause-other : goal.returns-in-Ok-false-clause-other
returns-in-Ok-false-clause-other g c =
    let some = c.act_again.ensures.some in
    taken_back c.args.cells.now c.act_again.new.cells some.trace c.act_again.new.inverses.items some.done c.requires c.use_invariant.ensures.cells c.end_all.new.cells c.end_all.ensures.cells c.end_all.ensures.unsettled

pub returns-in-Ok-false-clause-settled : goal.returns-in-Ok-false-clause-settled
returns-in-Ok-false-clause-settled g c =
    let some = c.act_again.ensures.some in
    c.end_all.ensures.unsettled ∙ ended c.args.cells.now c.act_again.new.cells some.trace c.act_again.new.inverses.items some.done c.requires

pub returns-in-Err-clause-settled : goal.returns-in-Err-clause-settled
returns-in-Err-clause-settled g c =
    let some = c.act_again.ensures.some in
    c.end_all-in-Err.ensures.unsettled ∙ ended c.args.cells.now c.act_again.new.cells some.trace c.act_again.new.inverses.items some.done c.requires

pub returns-in-Err-clause-err : goal.returns-in-Err-clause-err
returns-in-Err-clause-err g c =
    let some = c.act_again.ensures.some in
    taken_back c.args.cells.now c.act_again.new.cells some.trace c.act_again.new.inverses.items some.done c.requires c.use_invariant.ensures.cells c.end_all-in-Err.new.cells c.end_all-in-Err.ensures.cells c.end_all-in-Err.ensures.unsettled
