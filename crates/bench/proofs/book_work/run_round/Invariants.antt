use Rattle.std.proofs.Common.{◌≡◌}
use Rattle.bench.proofs.book_work.run_round.Given as goal

abbrev pub invariant-loop-live : goal.invariant-loop-live
invariant-loop-live l = l.book.entries ≡ l.fn.book.entries
