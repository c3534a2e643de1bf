use Rattle.std.proofs.Common.{◌≡◌, ◌+◌, length, arith}
use Rattle.interp.specs.Callee.{setting_view}
use Rattle.in_order.proofs.OneMore.{byte_le, ran_more}
use Rattle.in_order.proofs.turns.do_next.Goals as goal

pub returns-clause-ran : goal.returns-clause-ran
returns-clause-ran g c =
    let job = c.args.job.now in
    let done = c.in_ok-done.done in
    let one = byte_le done.ahead in
    let place : length c.args.ran.receipts.items ≡ c.len.result = omega (arith, c.len.ensures, c.args.ran.receipts.ok.0) in
    ran_more (setting_view job.task.version job.task.contracts.now) job.task.calls.now job.order.now job.cells.now.cells c.args.ran (record { receipts = c.push.new.self; touched = c.push-2.new.self; cells = c.execute_one.new.cells; ahead = c.args.ran.ahead + c.from.result }) done.executed.receipt done.executed.touched c.len.result 0
    c.requires.known.known c.requires.ran place (let more = c.requires.more in omega (arith, place, more)) c.in_ok-push.ensures.items c.in_ok-push-2.ensures.items c.in_ok-done.ensures.executed c.in_ok-done.ensures.settled (omega (arith, one, c.from.ensures))
