use Rattle.std.proofs.Common.{Some, IfSome}
use Rattle.std.proofs.lemmas.List.Elements.{All-set}
use Rattle.in_order.specs.Shares.{AreSpeculativeRunsOf}
use Rattle.in_order.proofs.reorder_buffer.place.Goals as goal

pub returns-then-nth-len : goal.returns-then-nth-len
returns-then-nth-len g c = All-set (λ o. IfSome o (AreSpeculativeRunsOf c.args._job.now.task)) c.args.supply.now.waiting.items c.args.batch.nth (Some c.args.batch.share) c.requires.batch c.requires.supply
