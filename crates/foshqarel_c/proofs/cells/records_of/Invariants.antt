use Rattle.std.proofs.Common.{◌≡◌, ◌++◌, map}
use Rattle.foshqarel_c.specs.Records.{cell_record}
use Rattle.foshqarel_c.proofs.cells.records_of.Given as goal

abbrev pub invariant-loop-lock : goal.invariant-loop-lock
invariant-loop-lock l =
    goal.iterator-loop-lock.can_next l.lock-iterator ×
    goal.iterator-loop-lock.is_finite l.lock-iterator ×
    (l.yielded ++ l.lock-iterator ≡ l.initial.lock-iterator) ×
    (l.all.items ≡ map cell_record l.yielded)
