use Rattle.publish.specs.Publication.{limits}
use Rattle.miner.proofs.ListOrder.{HasFitted}
use Rattle.miner.proofs.list_order.first_fit.Given as goal

abbrev pub invariant-loop-number : goal.invariant-loop-number
invariant-loop-number g l = HasFitted (limits l.calls) l.fuel l.number l.remaining l.order.items l.left.items
