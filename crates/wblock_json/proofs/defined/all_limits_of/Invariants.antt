use Rattle.std.proofs.Common.{◌≡◌, ◌++◌, drop, map}
use Rattle.serde_json.specs.View.{view}
use Rattle.module_tree.specs.ModuleView.{limits_view}
use Rattle.wblock_json.specs.Modules.{limits_data}
use Rattle.wblock_json.proofs.defined.all_limits_of.Given as goal

abbrev pub invariant-loop-limits : goal.invariant-loop-limits
invariant-loop-limits l = map view l.values.items ++ map limits_data (map limits_view (drop l.limits-index l.all)) ≡ map limits_data (map limits_view l.all)
