use Rattle.std.proofs.Common.{◌≡◌, ◌++◌}
use Rattle.storage.proofs.Cells.listed.Given as goal

abbrev pub invariant-loop-cell : goal.invariant-loop-cell
invariant-loop-cell g l =
    (goal.iterator-loop-cell g).can_next l.cell-iterator ×
    (goal.iterator-loop-cell g).is_finite l.cell-iterator ×
    (l.yielded ++ l.cell-iterator ≡ l.initial.cell-iterator) ×
    (l.cells.items ≡ l.yielded)
