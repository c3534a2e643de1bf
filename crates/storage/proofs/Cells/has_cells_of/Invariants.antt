use Rattle.std.proofs.Common.{◌≡◌, ◌++◌}
use Rattle.storage.proofs.Cells.has_cells_of.Given as goal

-- what was gone over of both is the same
abbrev pub invariant-loop-entry : goal.invariant-loop-entry
invariant-loop-entry g l =
    (goal.iterator-loop-entry g).can_next l.entry-iterator ×
    (goal.iterator-loop-entry g).is_finite l.entry-iterator ×
    (l.yielded ++ l.entry-iterator ≡ l.initial.entry-iterator) ×
    (l.yielded ++ l.others ≡ l.initial.others)
