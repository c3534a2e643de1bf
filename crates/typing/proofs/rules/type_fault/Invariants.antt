use Rattle.std.proofs.Common.{◌≡◌, drop, map}
use Rattle.std.specs.List.{list_all}
use Rattle.module_tree.specs.ModuleView.{func_type_view}
use Rattle.typing.specs.Tests.{type_passes}
use Rattle.typing.proofs.rules.type_fault.Given as goal

abbrev pub invariant-loop-t : goal.invariant-loop-t
invariant-loop-t g l = list_all type_passes (map func_type_view (drop l.t-index l.types.items)) ≡ list_all type_passes (map func_type_view l.types.items)
