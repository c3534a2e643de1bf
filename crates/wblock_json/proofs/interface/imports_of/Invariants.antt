use Rattle.std.proofs.Common.{◌≡◌, ◌++◌, drop, map}
use Rattle.serde_json.specs.View.{view}
use Rattle.module_tree.specs.ModuleView.{func_type_view, import_view}
use Rattle.wblock_json.specs.Modules.{import_data}
use Rattle.wblock_json.proofs.interface.imports_of.Given as goal

abbrev pub invariant-loop-import : goal.invariant-loop-import
invariant-loop-import l =
    let value = import_data (map func_type_view l.types) in
    map view l.values.items ++ map value (map import_view (drop l.import-index l.imports)) ≡ map value (map import_view l.imports)
