use Rattle.std.proofs.Common.{◌≡◌, map, take}
use Rattle.spec_block.specs.Worlds.{Position}
use Rattle.block_judge.proofs.order.numbers_of.Given as goal

abbrev pub invariant-loop-position : goal.invariant-loop-position
invariant-loop-position g l = l.numbers.items ≡ map (λ (p : Position). p.call) (take l.position-index l.position-items)
