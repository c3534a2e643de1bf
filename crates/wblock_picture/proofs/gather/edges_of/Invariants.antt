use Rattle.wblock_picture.proofs.Adding.{AreBelow}
use Rattle.wblock_picture.proofs.gather.edges_of.Given as goal

abbrev pub invariant-loop-before : goal.invariant-loop-before
invariant-loop-before l = AreBelow l.graph.profiles l.before l.positions l.list.items
