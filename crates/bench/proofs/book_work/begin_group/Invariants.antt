use Rattle.std.proofs.Common.{◌≡◌, ◌+◌, length}
use Rattle.bench.proofs.book_work.begin_group.Given as goal

abbrev pub invariant-loop-call : goal.invariant-loop-call
invariant-loop-call l = (length l.lives.items + l.first ≡ l.call) × (l.book.entries ≡ l.fn.book.entries)
