use Rattle.std.proofs.Common.{◌≡◌, drop, map}
use Rattle.module_tree.specs.ModuleView.{limits_view, element_view}
use Rattle.link.specs.Tests.{first_fault, element_fits}
use Rattle.link.proofs.segments.element_fault.Given as goal

abbrev pub invariant-loop-i : goal.invariant-loop-i
invariant-loop-i g l = first_fault (element_fits (map limits_view l.tables.items)) l.i (map element_view (drop l.i l.elements.items)) ≡ first_fault (element_fits (map limits_view l.tables.items)) 0 (map element_view l.elements.items)
