use Rattle.figures.proofs.Hot.{AreSoFar}
use Rattle.figures.proofs.hottest.first_ten.Given as goal

abbrev pub invariant-loop : goal.invariant-loop
invariant-loop l = AreSoFar l.shared l.hottest.items l.last l.counter
