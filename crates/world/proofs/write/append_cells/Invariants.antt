use Rattle.std.proofs.Common.{◌≡◌, ◌++◌}
use Rattle.std.specs.List.{filter, flat_map}
use Rattle.spec_block.specs.Bytes.{cell_bytes}
use Rattle.world.specs.Views.{is_cell_of}
use Rattle.world.proofs.write.append_cells.Given as goal

abbrev pub invariant-loop-cell : goal.invariant-loop-cell
invariant-loop-cell g l =
    (goal.iterator-loop-cell g).can_next l.cell-iterator ×
    (goal.iterator-loop-cell g).is_finite l.cell-iterator ×
    (l.yielded ++ l.cell-iterator ≡ l.initial.cell-iterator) ×
    (l.out.items ≡ l.fn.out.items ++ flat_map cell_bytes (filter (is_cell_of l.kind) l.yielded))
