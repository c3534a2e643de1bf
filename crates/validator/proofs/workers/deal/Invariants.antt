use Rattle.std.proofs.Common.{◌≡◌, length}
use Rattle.validator.proofs.workers.deal.Given as goal

abbrev pub invariant-loop-at : goal.invariant-loop-at
invariant-loop-at g l = length l.pairs.items ≡ length l.fn.pairs.items
