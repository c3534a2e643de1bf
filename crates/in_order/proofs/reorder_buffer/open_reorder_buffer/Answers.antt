use Rattle.std.proofs.Common.{IfSome, None, [], ◌∷◌, ◌++◌}
use Rattle.std.proofs.lemmas.List.Elements.{All-push, All-same}
use Rattle.in_order.specs.Shares.{AreSpeculativeRunsOf}
use Rattle.in_order.proofs.reorder_buffer.open_reorder_buffer.Goals as goal

pub loop-preserved : goal.loop-preserved
loop-preserved g c =
    let is = AreSpeculativeRunsOf c.args.job.now.task in
    All-same (λ o. IfSome o is) c.push.new.self.items (c.loop.waiting.items ++ None ∷ []) c.in_ok-push.ensures.items (All-push (λ o. IfSome o is) c.loop.waiting.items None c.loop.invariant tt)
