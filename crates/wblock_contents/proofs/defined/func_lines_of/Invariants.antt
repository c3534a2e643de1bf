use Rattle.std.proofs.Common.{◌≡◌, ℕ, ◌+◌, ◌≤◌, ◌++◌, drop, map, string_bytes}
use Rattle.wblock_words.specs.Names.{Rises, name_among, names_in}
use Rattle.module_tree.specs.ModuleView.{func_type_view, func_view, import_view}
use Rattle.module_tree.specs.Readers.{imported_funcs}
use Rattle.wblock_contents.specs.Lines.{numbered}
use Rattle.wblock_contents.specs.ModuleText.{func_line}
use Rattle.wblock_contents.proofs.defined.func_lines_of.Given as goal

abbrev pub invariant-loop-func : goal.invariant-loop-func
invariant-loop-func l =
    let line = func_line (map func_type_view l.tree.types.items) (names_in l.names) in
    let first = imported_funcs (map import_view l.tree.imports.items) in
    (l.number ≡ first + l.func-index) × (string_bytes l.text ++ numbered line l.number (map func_view (drop l.func-index l.tree.funcs.items)) ≡ numbered line first (map func_view l.tree.funcs.items))
    × Rises (names_in l.left) × ((later : ℕ) → l.number ≤ later → name_among (names_in l.left) later ≡ name_among (names_in l.names) later)
