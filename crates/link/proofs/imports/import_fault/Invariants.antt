use Rattle.std.proofs.Common.{◌≡◌, drop, map}
use Rattle.module_tree.specs.ModuleView.{func_type_view, import_view}
use Rattle.link.specs.Tests.{first_fault, is_call}
use Rattle.link.proofs.imports.import_fault.Given as goal

abbrev pub invariant-loop-i : goal.invariant-loop-i
invariant-loop-i g l = first_fault (is_call (map func_type_view l.types.items)) l.i (map import_view (drop l.i l.imports.items)) ≡ first_fault (is_call (map func_type_view l.types.items)) 0 (map import_view l.imports.items)
