use Rattle.std.proofs.Common.{◌≡◌, drop, map}
use Rattle.module_tree.specs.ModuleView.{limits_view}
use Rattle.typing.specs.Tests.{memory_passes, at_most_one}
use Rattle.typing.proofs.rules.memory_fault.Given as goal

abbrev pub invariant-loop-limits : goal.invariant-loop-limits
invariant-loop-limits g l = at_most_one memory_passes l.before (map limits_view (drop l.limits-index l.memories.items)) ≡ at_most_one memory_passes l.there (map limits_view l.memories.items)
