use Rattle.std.proofs.Common.{◌≡◌, drop, map}
use Rattle.std.specs.List.{list_all}
use Rattle.module_tree.specs.ModuleView.{func_view}
use Rattle.typing.specs.Tests.{func_passes}
use Rattle.typing.proofs.rules.func_fault.Given as goal

abbrev pub invariant-loop-f : goal.invariant-loop-f
invariant-loop-f g l = list_all (func_passes l.types) (map func_view (drop l.f-index l.funcs.items)) ≡ list_all (func_passes l.types) (map func_view l.funcs.items)
