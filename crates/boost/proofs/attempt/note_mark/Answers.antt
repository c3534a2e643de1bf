use Rattle.boost.proofs.Remarking.{noted_did, noted_opened, popped_kept, popped_dropped}
use Rattle.boost.proofs.attempt.note_mark.Goals as goal

pub returns-in-Did : goal.returns-in-Did
returns-in-Did g c = λ trace none are. absurd (noted_did trace c.args.mark none c.args.noted.now.items c.args.noted.now.items are c.in-Did.field-0 c.in-Did.field-1 c.in-Did.is)

pub returns-in-Ok : goal.returns-in-Ok
returns-in-Ok g c = λ trace none are. noted_opened trace c.args.mark none c.args.noted.now.items c.push.new.self.items are c.in-Opened.is c.in-Ok.ensures.items

pub returns-in-Kept : goal.returns-in-Kept
returns-in-Kept g c = λ trace none are. popped_kept trace c.args.mark none c.args.noted.now.items c.pop.new.self.items are c.in-Kept.is c.pop.result c.pop.ensures.items c.args.noted.now.len c.args.noted.now.ok.0 c.pop.ensures.value

pub returns-in-Dropped : goal.returns-in-Dropped
returns-in-Dropped g c = λ trace none are. popped_dropped trace c.args.mark none c.args.noted.now.items c.pop-in-Dropped.new.self.items are c.in-Dropped.is c.pop-in-Dropped.result c.pop-in-Dropped.ensures.items c.args.noted.now.len c.args.noted.now.ok.0 c.pop-in-Dropped.ensures.value
