use Rattle.in_order.specs.Shares.{AreSpeculativeRunsOf}
use Rattle.in_order.proofs.ahead_of_turn.run_calls.Given as goal

abbrev pub invariant-loop-offset : goal.invariant-loop-offset
invariant-loop-offset g l = record { share : AreSpeculativeRunsOf l.job.task l.share }
