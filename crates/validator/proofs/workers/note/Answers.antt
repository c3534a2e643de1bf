use Rattle.validator.proofs.Runs.{one_noted}
use Rattle.validator.proofs.workers.note.Goals as goal

pub returns-then-position-len : goal.returns-then-position-len
returns-then-position-len g c = one_noted c.args._job.now c.args.runs.now.items c.args.made.position c.args.made c.requires.runs c.requires.made
