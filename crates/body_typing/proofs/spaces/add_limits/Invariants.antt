use Rattle.std.proofs.Common.{◌≡◌, ◌++◌, take, map}
use Rattle.module_tree.specs.ModuleView.{limits_view}
use Rattle.body_typing.proofs.spaces.add_limits.Given as goal

abbrev pub invariant-loop-limits : goal.invariant-loop-limits
invariant-loop-limits g l = map limits_view l.all.items ≡ map limits_view l.fn.all.items ++ map limits_view (take l.limits-index l.defined.items)
