use Rattle.std.proofs.Common.{◌≡◌, ◌++◌, drop, map, string_bytes}
use Rattle.module_tree.specs.ModuleView.{func_type_view, import_view}
use Rattle.wblock_contents.specs.Lines.{numbered}
use Rattle.wblock_contents.specs.ModuleText.{import_line}
use Rattle.wblock_contents.proofs.interface.import_lines_of.Given as goal

abbrev pub invariant-loop-import : goal.invariant-loop-import
invariant-loop-import l =
    let line = import_line (map func_type_view l.types) in
    (l.number ≡ l.import-index) × (string_bytes l.text ++ numbered line l.number (map import_view (drop l.import-index l.imports)) ≡ numbered line 0 (map import_view l.imports))
