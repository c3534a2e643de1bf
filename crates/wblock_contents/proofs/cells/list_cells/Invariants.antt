use Rattle.std.proofs.Common.{◌≡◌, ◌++◌}
use Rattle.wblock_contents.proofs.cells.list_cells.Given as goal

abbrev pub invariant-loop-lock : goal.invariant-loop-lock
invariant-loop-lock l =
    goal.iterator-loop-lock.can_next l.lock-iterator ×
    goal.iterator-loop-lock.is_finite l.lock-iterator ×
    (l.yielded ++ l.lock-iterator ≡ l.initial.lock-iterator) ×
    (l.all.items ≡ l.yielded)
