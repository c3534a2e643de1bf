use Rattle.std.proofs.Common.{◌≡◌, ◌+◌, ◌++◌, drop, map, string_bytes}
use Rattle.module_tree.specs.ModuleView.{global_view}
use Rattle.wblock_contents.specs.Lines.{numbered}
use Rattle.wblock_contents.specs.ModuleText.{global_line}
use Rattle.wblock_contents.proofs.defined.global_lines_of.Given as goal

abbrev pub invariant-loop-global : goal.invariant-loop-global
invariant-loop-global l =
    (l.number ≡ l.first + l.global-index) × (string_bytes l.text ++ numbered global_line l.number (map global_view (drop l.global-index l.globals)) ≡ numbered global_line l.first (map global_view l.globals))
