use Rattle.std.proofs.Common.{◌≡◌, drop, map}
use Rattle.std.specs.List.{list_all}
use Rattle.module_tree.specs.ModuleView.{func_view}
use Rattle.body_typing.specs.CheckResults.{spaces_view}
use Rattle.typing.specs.Tests.{body_passes}
use Rattle.typing.proofs.check.check_bodies.Given as goal

abbrev pub invariant-loop-f : goal.invariant-loop-f
invariant-loop-f g l = list_all (body_passes (spaces_view l.tree.types.items l.spaces)) (map func_view (drop l.f-index l.tree.funcs.items)) ≡ list_all (body_passes (spaces_view l.tree.types.items l.spaces)) (map func_view l.tree.funcs.items)
