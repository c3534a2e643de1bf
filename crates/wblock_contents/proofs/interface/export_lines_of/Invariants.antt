use Rattle.std.proofs.Common.{◌≡◌, ◌++◌, drop, map, string_bytes}
use Rattle.module_tree.specs.ModuleView.{func_type_view, export_view}
use Rattle.wblock_contents.specs.Lines.{numbered}
use Rattle.wblock_contents.specs.ModuleText.{export_line}
use Rattle.wblock_contents.proofs.interface.export_lines_of.Given as goal

abbrev pub invariant-loop-export : goal.invariant-loop-export
invariant-loop-export l =
    let line = export_line (map func_type_view l.types) l.indices in
    (l.number ≡ l.export-index) × (string_bytes l.text ++ numbered line l.number (map export_view (drop l.export-index l.exports)) ≡ numbered line 0 (map export_view l.exports))
