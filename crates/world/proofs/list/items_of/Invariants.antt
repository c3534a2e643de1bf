use Rattle.std.proofs.Common.{◌≡◌, ◌-◌, None}
use Rattle.records.specs.Reading.{items_at}
use Rattle.records.proofs.Items.{with_front}
use Rattle.world.specs.Cells.{cell_at}
use Rattle.world.proofs.list.items_of.Given as goal

abbrev pub invariant-loop : goal.invariant-loop
invariant-loop g l = with_front l.cells.items (items_at (cell_at l.kind) (l.count - l.counter) l.before l.rest) ≡ items_at (cell_at l.kind) l.count None l.bytes
