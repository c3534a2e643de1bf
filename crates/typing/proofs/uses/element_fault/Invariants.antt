use Rattle.std.proofs.Common.{◌≡◌, drop, map}
use Rattle.std.specs.List.{list_all}
use Rattle.module_tree.specs.ModuleView.{element_view, global_type_view}
use Rattle.typing.specs.Tests.{element_passes}
use Rattle.typing.proofs.uses.element_fault.Given as goal

abbrev pub invariant-loop-element : goal.invariant-loop-element
invariant-loop-element g l = list_all (element_passes l.tables l.funcs (map global_type_view l.imported)) (map element_view (drop l.element-index l.elements.items)) ≡ list_all (element_passes l.tables l.funcs (map global_type_view l.imported)) (map element_view l.elements.items)
