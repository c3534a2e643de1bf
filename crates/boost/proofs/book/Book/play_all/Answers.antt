use Rattle.boost.specs.declared.play.Event.TheVariants.{Begin}
use Rattle.boost.proofs.Playing.{plays_more}
use Rattle.boost.proofs.book.Book.play_all.Goals as goal

pub loop-event-preserved : goal.loop-event-preserved
loop-event-preserved g c =
    plays_more c.args.self.now c.loop-event.self c.happen.new.self c.args.events.now c.loop-event.event-index (Begin 0) c.loop-event.answers.items c.push.new.self.items c.in_ok-answer.answer
    c.loop-event-test.true c.loop-event.invariant c.in_ok-answer.ensures.ok c.in-Ok.ensures.items
