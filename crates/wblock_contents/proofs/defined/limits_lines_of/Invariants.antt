use Rattle.std.proofs.Common.{◌≡◌, ◌++◌, drop, map, string_bytes}
use Rattle.std.specs.List.{flat_map}
use Rattle.module_tree.specs.ModuleView.{limits_view}
use Rattle.wblock_contents.specs.ModuleText.{limits_line}
use Rattle.wblock_contents.proofs.defined.limits_lines_of.Given as goal

abbrev pub invariant-loop-limits : goal.invariant-loop-limits
invariant-loop-limits l = string_bytes l.text ++ flat_map (limits_line l.word) (map limits_view (drop l.limits-index l.all)) ≡ flat_map (limits_line l.word) (map limits_view l.all)
