use Rattle.std.proofs.Common.{◌≡◌, ◌-◌, None}
use Rattle.records.specs.Reading.{items_at}
use Rattle.records.proofs.Items.{with_front}
use Rattle.records.specs.Profiles.{entry_at}
use Rattle.records.proofs.profile.entries_of.Given as goal

abbrev pub invariant-loop : goal.invariant-loop
invariant-loop g l = with_front l.entries.items (items_at entry_at (l.count - l.counter) l.before l.rest) ≡ items_at entry_at l.count None l.bytes
