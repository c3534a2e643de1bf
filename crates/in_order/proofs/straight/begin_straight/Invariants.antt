use Rattle.in_order.specs.Progress.{IsProgressOf}
use Rattle.in_order.proofs.straight.begin_straight.Given as goal

abbrev pub invariant-loop : goal.invariant-loop
invariant-loop g l = IsProgressOf l.job l.came.ran
