use Rattle.std.proofs.Common.{◌≡◌, ◌++◌, string_bytes}
use Rattle.std.specs.List.{filter, flat_map}
use Rattle.world.specs.Views.{is_cell_of}
use Rattle.wblock_contents.specs.WorldText.{cell_line}
use Rattle.wblock_contents.proofs.cells.cells_text_of.Given as goal

abbrev pub invariant-loop-lock : goal.invariant-loop-lock
invariant-loop-lock l =
    goal.iterator-loop-lock.can_next l.lock-iterator ×
    goal.iterator-loop-lock.is_finite l.lock-iterator ×
    (l.yielded ++ l.lock-iterator ≡ l.initial.lock-iterator) ×
    (string_bytes l.text ≡ flat_map (cell_line l.signed) (filter (is_cell_of l.kind) l.yielded))
