use Rattle.std.proofs.Common.{◌≡◌}
use Rattle.tests_threads.proofs.shared_queues.take_late.Given as goal

abbrev pub invariant-loop : goal.invariant-loop
invariant-loop g l = record {
  can_next : (goal.iterator-loop g).can_next l.iterator';
  is_finite : (goal.iterator-loop g).is_finite l.iterator';
  same : l.hand.line ≡ l.initial.hand.line;
}
