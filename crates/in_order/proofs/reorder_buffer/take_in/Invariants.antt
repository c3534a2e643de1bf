use Rattle.in_order.specs.Queues.{IsQueueEndOf, IsReorderBufferOf}
use Rattle.in_order.proofs.reorder_buffer.take_in.Given as goal

abbrev pub invariant-loop : goal.invariant-loop
invariant-loop g l = record { supply : IsReorderBufferOf l.job.task l.supply; post : IsQueueEndOf l.job l.post }
