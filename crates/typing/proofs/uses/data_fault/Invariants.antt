use Rattle.std.proofs.Common.{◌≡◌, drop, map}
use Rattle.std.specs.List.{list_all}
use Rattle.module_tree.specs.ModuleView.{data_view, global_type_view}
use Rattle.typing.specs.Tests.{data_passes}
use Rattle.typing.proofs.uses.data_fault.Given as goal

abbrev pub invariant-loop-segment : goal.invariant-loop-segment
invariant-loop-segment g l = list_all (data_passes l.memories (map global_type_view l.imported)) (map data_view (drop l.segment-index l.datas.items)) ≡ list_all (data_passes l.memories (map global_type_view l.imported)) (map data_view l.datas.items)
