use Rattle.std.proofs.Common.{◌≡◌, ◌+◌, drop, length}
use Rattle.spec_modules.specs.Shape.{preorder}
use Rattle.module_tree.specs.View.{instrs_view}
use Rattle.module_tree.proofs.shape.+count.Given as goal

abbrev pub invariant-count_of-loop-i : goal.invariant-count_of-loop-i
invariant-count_of-loop-i g l =
    l.count + length (preorder (instrs_view (drop l.i-index l.body.items))) ≡ length (preorder (instrs_view l.body.items))
