use Rattle.std.proofs.Common.{◌≡◌, ◌++◌}
use Rattle.shards.proofs.opening.own_cells.Given as goal

abbrev pub invariant-loop-lock : goal.invariant-loop-lock
invariant-loop-lock g l =
    (goal.iterator-loop-lock g).can_next l.lock-iterator × (goal.iterator-loop-lock g).is_finite l.lock-iterator × (l.yielded ++ l.lock-iterator ≡ l.initial.lock-iterator)
