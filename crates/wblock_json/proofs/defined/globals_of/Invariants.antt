use Rattle.std.proofs.Common.{◌≡◌, ◌+◌, ◌++◌, drop, map}
use Rattle.serde_json.specs.View.{view}
use Rattle.std.proofs.Common.{length}
use Rattle.spec_typing.specs.Modules.{imported_globals}
use Rattle.module_tree.specs.ModuleView.{global_view}
use Rattle.module_tree.specs.Modules.{module_view}
use Rattle.wblock_json.specs.Json.{numbered}
use Rattle.wblock_json.specs.Modules.{global_data}
use Rattle.wblock_json.proofs.defined.globals_of.Given as goal

abbrev pub invariant-loop-global : goal.invariant-loop-global
invariant-loop-global l =
    let first = length (imported_globals (module_view l.tree)) in
    (l.number ≡ first + l.global-index) × (map view l.values.items ++ numbered global_data l.number (map global_view (drop l.global-index l.tree.globals.items)) ≡ numbered global_data first (map global_view l.tree.globals.items))
