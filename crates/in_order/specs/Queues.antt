-- What threads hand over, and what has come.
use Rattle.std.specs.Prelude.{◌≡◌, All, IfSome}
use Rattle.in_order.specs.declared.InOrder.{InOrder}
use Rattle.in_order.specs.declared.Task.{Task}
use Rattle.in_order.specs.declared.post.QueueEnd.{QueueEnd}
use Rattle.in_order.specs.declared.reorder_buffer.ReorderBuffer.{ReorderBuffer}
use Rattle.in_order.specs.Shares.{AreSpeculativeRunsOf}

-- by it batches of the job are handed over
abbrev pub IsQueueEndOf : {A P : Type 0} → InOrder A P → QueueEnd A → Type 0
IsQueueEndOf job post = post.line.now.key ≡ job.task

-- what has come are calls with their read-write sets
abbrev pub IsReorderBufferOf : {A : Type 0} → Task A → ReorderBuffer A → Type 0
IsReorderBufferOf task s = All (λ o. IfSome o (AreSpeculativeRunsOf task)) s.waiting.items
