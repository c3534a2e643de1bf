use Rattle.std.proofs.Common.{◌≤◌, length}
use Rattle.tests_threads.proofs.shared_queues.give_all.Given as goal

abbrev pub invariant-loop-pair : goal.invariant-loop-pair
invariant-loop-pair g l = 32 ≤ length l.hand.line.now.key.numbers.now
