use Rattle.spec_execution.proofs.Replies.{is_reply}
use Rattle.serial.proofs.steps.act.Goals as goal

pub returns-clause-is_reply : goal.returns-clause-is_reply
returns-clause-is_reply g c = is_reply c.args.op c.args.cells.now.cells c.in_ok-reply.reply c.in_ok-reply.ensures.reply
