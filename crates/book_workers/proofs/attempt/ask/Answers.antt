use Rattle.spec_execution.proofs.Replies.{is_reply}
use Rattle.book_workers.proofs.attempt.ask.Goals as goal

pub returns-in-Ok : goal.returns-in-Ok
returns-in-Ok g c =
    let done = c.in-Ok.ensures.ok in
    is_reply c.args.op done.holds.1.now c.in-Ok.reply done.holds.3.reply_is
