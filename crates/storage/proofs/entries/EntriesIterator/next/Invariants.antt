use Rattle.std.proofs.Common.{◌≡◌, length}
use Rattle.storage.specs.Slots.{left_of, merged}
use Rattle.storage.proofs.entries.EntriesIterator.next.Given as goal

abbrev pub invariant-loop-self : goal.invariant-loop-self
invariant-loop-self l = merged l.self-inside.base.now (left_of l.self-inside.slot l.self-inside.slots) ≡ merged l.initial.self-inside.base.now (left_of l.initial.self-inside.slot l.initial.self-inside.slots)

abbrev pub decreases-loop-self : goal.decreases-loop-self
decreases-loop-self l = length (left_of l.self-inside.slot l.self-inside.slots)
