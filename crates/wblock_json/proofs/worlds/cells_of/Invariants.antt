use Rattle.std.proofs.Common.{◌≡◌, ◌++◌, filter, map}
use Rattle.serde_json.specs.View.{view}
use Rattle.world.specs.Views.{is_cell_of}
use Rattle.wblock_json.specs.Worlds.{cell_data}
use Rattle.wblock_json.proofs.worlds.cells_of.Given as goal

abbrev pub invariant-loop-lock : goal.invariant-loop-lock
invariant-loop-lock l =
    goal.iterator-loop-lock.can_next l.lock-iterator ×
    goal.iterator-loop-lock.is_finite l.lock-iterator ×
    (l.yielded ++ l.lock-iterator ≡ l.initial.lock-iterator) ×
    (map view l.values.items ≡ map (cell_data l.signed) (filter (is_cell_of l.kind) l.yielded))
