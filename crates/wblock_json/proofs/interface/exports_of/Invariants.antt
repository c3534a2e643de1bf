use Rattle.std.proofs.Common.{◌≡◌, ◌++◌, drop, map}
use Rattle.serde_json.specs.View.{view}
use Rattle.module_tree.specs.ModuleView.{export_view}
use Rattle.module_tree.specs.Modules.{module_view}
use Rattle.wblock_json.specs.Modules.{export_data}
use Rattle.wblock_json.proofs.interface.exports_of.Given as goal

abbrev pub invariant-loop-export : goal.invariant-loop-export
invariant-loop-export l =
    let value = export_data (module_view l.tree) in
    map view l.values.items ++ map value (map export_view (drop l.export-index l.tree.exports.items)) ≡ map value (map export_view l.tree.exports.items)
