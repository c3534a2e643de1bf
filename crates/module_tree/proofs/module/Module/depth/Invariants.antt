use Rattle.std.proofs.Common.{◌≡◌, max, drop, map}
use Rattle.module_tree.specs.ModuleView.{func_view}
use Rattle.module_tree.specs.Readers.{deepest}
use Rattle.module_tree.proofs.module.Module.depth.Given as goal

abbrev pub invariant-loop-func : goal.invariant-loop-func
invariant-loop-func g l =
    max l.depth (deepest (map func_view (drop l.func-index l.self.funcs.items))) ≡ deepest (map func_view l.self.funcs.items)
