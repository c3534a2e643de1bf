use Rattle.std.proofs.Common.{◌≡◌, drop, map}
use Rattle.std.specs.List.{list_all}
use Rattle.module_tree.specs.ModuleView.{global_view, global_type_view}
use Rattle.typing.specs.Tests.{global_passes}
use Rattle.typing.proofs.uses.global_fault.Given as goal

abbrev pub invariant-loop-g : goal.invariant-loop-g
invariant-loop-g g l = list_all (global_passes (map global_type_view l.imported)) (map global_view (drop l.g-index l.globals.items)) ≡ list_all (global_passes (map global_type_view l.imported)) (map global_view l.globals.items)
