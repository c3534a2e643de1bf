use Rattle.std.proofs.Common.{◌≡◌, length}
use Rattle.tests_threads.proofs.shared_queues.take_all.Given as goal

abbrev pub invariant-loop : goal.invariant-loop
invariant-loop g l = length l.seen.items ≡ length l.hand.line.now.key.numbers.now
