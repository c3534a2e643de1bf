use Rattle.std.proofs.Common.{◌≡◌, drop, map}
use Rattle.std.specs.List.{list_all}
use Rattle.module_tree.specs.ModuleView.{limits_view}
use Rattle.link.specs.Tests.{is_within}
use Rattle.link.proofs.segments.all_within.Given as goal

abbrev pub invariant-loop-limits : goal.invariant-loop-limits
invariant-loop-limits g l = list_all (is_within l.most) (map limits_view (drop l.limits-index l.all.items)) ≡ list_all (is_within l.most) (map limits_view l.all.items)
