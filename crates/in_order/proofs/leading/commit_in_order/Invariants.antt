use Rattle.in_order.specs.Progress.{IsProgressOf}
use Rattle.in_order.specs.Queues.{IsQueueEndOf, IsReorderBufferOf}
use Rattle.in_order.proofs.leading.commit_in_order.Given as goal

abbrev pub invariant-loop : goal.invariant-loop
invariant-loop g l = record { ran : IsProgressOf l.job l.came.ran; supply : IsReorderBufferOf l.job.task l.supply; post : IsQueueEndOf l.job l.post }
