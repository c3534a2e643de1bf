use Rattle.std.proofs.Common.{◌≡◌, ℕ, ◌<◌, length, take}
use Rattle.spec_block.specs.Verdicts.{IsBadNumber}
use Rattle.block_judge.specs.Marks.{AreMarked}
use Rattle.block_judge.proofs.order.mark.Given as goal

abbrev pub invariant-loop-position : goal.invariant-loop-position
invariant-loop-position g l = record {
  marked : AreMarked (take l.position l.order) l.marks.items;
  size : length l.marks.items ≡ length l.calls;
  none : (m : ℕ) → m < l.position → ¬ (IsBadNumber l.calls l.order m);
}
