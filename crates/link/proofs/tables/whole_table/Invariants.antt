use Rattle.std.proofs.Common.{◌≡◌, None, map, take, length}
use Rattle.std.specs.Prelude.{replicate}
use Rattle.module_tree.specs.ModuleView.{element_view, limits_view}
use Rattle.spec_execution.specs.Configuration.{size_of, with_elements}
use Rattle.link.proofs.tables.whole_table.Given as goal

abbrev pub invariant-loop-segment : goal.invariant-loop-segment
invariant-loop-segment g l = record {
  items : l.table.items ≡ with_elements (map element_view (take l.segment-index l.tree.elements.items)) (replicate (size_of (map limits_view l.tree.tables.items)) None);
  len : length l.table.items ≡ size_of (map limits_view l.tree.tables.items);
}
