use Rattle.std.proofs.Common.{◌≡◌, drop, map}
use Rattle.module_tree.specs.ModuleView.{limits_view}
use Rattle.typing.specs.Tests.{table_passes, at_most_one}
use Rattle.typing.proofs.rules.table_fault.Given as goal

abbrev pub invariant-loop-limits : goal.invariant-loop-limits
invariant-loop-limits g l = at_most_one table_passes l.before (map limits_view (drop l.limits-index l.tables.items)) ≡ at_most_one table_passes l.there (map limits_view l.tables.items)
