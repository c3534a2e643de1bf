use Rattle.in_order.specs.Queues.{IsQueueEndOf}
use Rattle.in_order.proofs.working.work.Given as goal

abbrev pub invariant-loop : goal.invariant-loop
invariant-loop g l = IsQueueEndOf l.job l.post
