use Rattle.std.proofs.Common.{sym, subst}
use Rattle.in_order.specs.Shares.{AreSpeculativeRunsOf}
use Rattle.in_order.proofs.line.hand_over.Goals as goal

pub give-requires-clause-fact : goal.give-requires-clause-fact
give-requires-clause-fact g c = subst (λ task. AreSpeculativeRunsOf task c.loop.next.share) (sym c.loop.invariant.post) c.loop.invariant.next

pub loop-preserved : goal.loop-preserved
loop-preserved g c = record { post = c.loop.invariant.post; next = subst (λ batch. AreSpeculativeRunsOf c.args._job.now.task batch.share) (sym c.in-Err.ensures.back) c.loop.invariant.next }
