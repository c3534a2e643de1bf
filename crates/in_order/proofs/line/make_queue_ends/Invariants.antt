use Rattle.std.proofs.Common.{All}
use Rattle.lanes.specs.Passes.{IsPassOf}
use Rattle.in_order.specs.Queues.{IsQueueEndOf}
use Rattle.in_order.proofs.line.make_queue_ends.Given as goal

abbrev pub invariant-loop-thread : goal.invariant-loop-thread
invariant-loop-thread g l = record { own : IsPassOf l.line l.own; posts : All (IsQueueEndOf l.job) l.posts.items }
