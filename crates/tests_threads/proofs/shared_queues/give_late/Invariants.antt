use Rattle.std.proofs.Common.{◌≡◌, ◌<◌, length}
use Rattle.std.specs.List.{All}
use Rattle.tests_threads.proofs.shared_queues.give_late.Given as goal

abbrev pub invariant-loop : goal.invariant-loop
invariant-loop g l = record {
  can_next : (goal.iterator-loop g).can_next l.iterator';
  is_finite : (goal.iterator-loop g).is_finite l.iterator';
  same : l.hand.line ≡ l.initial.hand.line;
  fact : All (λ place. place < length l.hand.line.now.key.numbers.now) l.item.places.items;
}
