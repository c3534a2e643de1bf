use Rattle.std.proofs.Common.{◌≡◌, length, map, reverse, take}
use Rattle.spec_ledger.specs.Book.{standing_at}
use Rattle.boost.proofs.attempt.Attempt.marked.Given as goal

abbrev pub invariant-loop-mark : goal.invariant-loop-mark
invariant-loop-mark g l = (l.trace.items ≡ take l.mark-index l.marks) × (reverse l.noted.items ≡ map length (standing_at l.trace.items).marks)
