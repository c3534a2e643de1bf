use Rattle.figures.proofs.Hot.{next_more}
use Rattle.figures.proofs.hottest.next_hottest.Goals as goal

pub loop-s-preserved : goal.loop-s-preserved
loop-s-preserved c = next_more c.args.shared.now c.loop-s.s-index _ c.args.last c.loop-s.best c.better-best.result c.loop-s-test.true c.loop-s.invariant c.better-best.ensures
