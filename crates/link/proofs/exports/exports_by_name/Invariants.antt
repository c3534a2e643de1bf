use Rattle.std.proofs.Common.{◌≤◌, drop, length, map}
use Rattle.module_tree.specs.ModuleView.{export_view}
use Rattle.link.specs.Exports.{AreExports}
use Rattle.link.proofs.exports.exports_by_name.Given as goal

abbrev pub invariant-loop-left : goal.invariant-loop-left
invariant-loop-left g l = (l.left ≤ length l.exports.items) × AreExports l.named (map export_view (drop l.left l.exports.items))

abbrev pub decreases-loop-left : goal.decreases-loop-left
decreases-loop-left g l = l.left
