use Rattle.std.proofs.Common.{◌≡◌, ◌++◌, take, map}
use Rattle.module_tree.specs.ModuleView.{global_type_view, global_view}
use Rattle.body_typing.proofs.spaces.add_globals.Given as goal

abbrev pub invariant-loop-g : goal.invariant-loop-g
invariant-loop-g g l = map global_type_view l.globals.items ≡ map global_type_view l.fn.globals.items ++ map (λ g. g.type) (map global_view (take l.g-index l.defined.items))
