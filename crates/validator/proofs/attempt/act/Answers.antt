use Rattle.validator.proofs.Runs.{reply_of}
use Rattle.validator.proofs.attempt.act.Goals as goal

pub returns-in-Ok-Some : goal.returns-in-Ok-Some
returns-in-Ok-Some g c = reply_of c.args.op c.deref_mut.result.now.cells c.in-Ok-Some.field-0 c.in-Ok-Some.reply c.in-Ok-Some.ensures.reply c.in-Ok-Some.field-0-is
