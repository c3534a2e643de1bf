use Rattle.std.proofs.Common.{All, IfSome}
use Rattle.in_order.specs.Shares.{AreSpeculativeRunsOf}
use Rattle.in_order.proofs.reorder_buffer.open_reorder_buffer.Given as goal

abbrev pub invariant-loop : goal.invariant-loop
invariant-loop g l = All (λ o. IfSome o (AreSpeculativeRunsOf l.job.task)) l.waiting.items
