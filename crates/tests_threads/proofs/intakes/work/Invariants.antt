use Rattle.book_workers.specs.Intakes.{IsSeatOf}
use Rattle.tests_threads.proofs.intakes.work.Given as goal

abbrev pub invariant-loop : goal.invariant-loop
invariant-loop g l = record {
  can_next : (goal.iterator-loop g).can_next l.iterator';
  is_finite : (goal.iterator-loop g).is_finite l.iterator';
  seat : IsSeatOf l.intake l.seat;
}
