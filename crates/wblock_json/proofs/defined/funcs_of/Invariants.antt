use Rattle.std.proofs.Common.{◌≡◌, ℕ, ◌+◌, ◌≤◌, ◌++◌, drop, map}
use Rattle.serde_json.specs.View.{view}
use Rattle.module_tree.specs.ModuleView.{func_type_view, func_view, import_view}
use Rattle.module_tree.specs.Readers.{imported_funcs}
use Rattle.wblock_words.specs.Names.{Rises, name_among, names_in}
use Rattle.wblock_json.specs.Json.{numbered}
use Rattle.wblock_json.specs.Modules.{named_func_data}
use Rattle.wblock_json.proofs.defined.funcs_of.Given as goal

abbrev pub invariant-loop-func : goal.invariant-loop-func
invariant-loop-func l =
    let value = named_func_data (map func_type_view l.tree.types.items) (names_in l.names) in
    let first = imported_funcs (map import_view l.tree.imports.items) in
    (l.number ≡ first + l.func-index) × (map view l.values.items ++ numbered value l.number (map func_view (drop l.func-index l.tree.funcs.items)) ≡ numbered value first (map func_view l.tree.funcs.items))
    × Rises (names_in l.left) × ((later : ℕ) → l.number ≤ later → name_among (names_in l.left) later ≡ name_among (names_in l.names) later)
