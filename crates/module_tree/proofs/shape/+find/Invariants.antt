use Rattle.std.proofs.Common.{◌≡◌, ◌+◌, take, length}
use Rattle.spec_modules.specs.Shape.{preorder}
use Rattle.module_tree.specs.View.{instrs_view, ordinals}
use Rattle.module_tree.proofs.shape.+find.Given as goal

abbrev pub invariant-find_in-loop-i : goal.invariant-find_in-loop-i
invariant-find_in-loop-i g l =
    (l.left + length (preorder (instrs_view (take l.i-index l.body.items))) ≡ l.ordinal)
    × (l.left + length (ordinals (take l.i-index l.body.items)) ≡ l.ordinal)
