use Rattle.std.proofs.Common.{ℕ, ◌<◌}
use Rattle.spec_block.specs.Verdicts.{HasRoom}
use Rattle.block_judge.proofs.order.least_with_room.Given as goal

abbrev pub invariant-loop-number : goal.invariant-loop-number
invariant-loop-number l = (m : ℕ) → m < l.number → ¬ (HasRoom l.calls l.fuel l.order m)
