use Rattle.std.proofs.Common.{◌≡◌, drop, map}
use Rattle.module_tree.specs.ModuleView.{limits_view, data_view}
use Rattle.link.specs.Tests.{first_fault, data_fits}
use Rattle.link.proofs.segments.data_fault.Given as goal

abbrev pub invariant-loop-i : goal.invariant-loop-i
invariant-loop-i g l = first_fault (data_fits (map limits_view l.memories.items)) l.i (map data_view (drop l.i l.datas.items)) ≡ first_fault (data_fits (map limits_view l.memories.items)) 0 (map data_view l.datas.items)
