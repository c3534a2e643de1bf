use Rattle.std.proofs.Common.{sym, subst}
use Rattle.publish.specs.Publication.{AreUnmarked}
use Rattle.publish.proofs.Marks.{unmarked_skip, unmarked_push}
use Rattle.publish.proofs.so_far.unmarked.Goals as goal

pub loop-call-preserved-then-marked : goal.loop-call-preserved-then-marked
loop-call-preserved-then-marked g c = unmarked_skip c.args.marks.now c.loop-call.call c.loop-call.left.items c.loop-call.invariant c.if-marked.true

pub loop-call-preserved : goal.loop-call-preserved
loop-call-preserved g c =
    subst (AreUnmarked c.args.marks.now _) (sym c.in_ok-push.ensures.items)
    (unmarked_push c.args.marks.now c.loop-call.call c.loop-call.left.items c.loop-call.invariant c.if-marked.false)
