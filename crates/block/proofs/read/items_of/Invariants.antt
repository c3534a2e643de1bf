use Rattle.std.proofs.Common.{◌≡◌, ◌-◌, Option, None}
use Rattle.spec_block.specs.Worlds.{Position}
use Rattle.records.specs.Reading.{items_at}
use Rattle.records.proofs.Items.{with_front}
use Rattle.block.specs.Reading.{next_position_at}
use Rattle.block.proofs.read.items_of.Given as goal

abbrev pub invariant-loop : goal.invariant-loop
invariant-loop g l = (before : Option Position) × (with_front l.positions.items (items_at (next_position_at l.version) (l.count - l.counter) before l.rest) ≡ items_at (next_position_at l.version) l.count None l.bytes)
