use Rattle.in_order.specs.Queues.{IsQueueEndOf}
use Rattle.in_order.specs.Shares.{AreSpeculativeRunsOf}
use Rattle.in_order.proofs.line.hand_over.Given as goal

abbrev pub invariant-loop : goal.invariant-loop
invariant-loop g l = record { post : IsQueueEndOf l._job l.post; next : AreSpeculativeRunsOf l._job.task l.next.share }
