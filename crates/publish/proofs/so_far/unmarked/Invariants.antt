use Rattle.publish.specs.Publication.{AreUnmarked}
use Rattle.publish.proofs.so_far.unmarked.Given as goal

abbrev pub invariant-loop-call : goal.invariant-loop-call
invariant-loop-call g l = AreUnmarked l.marks l.call l.left.items
