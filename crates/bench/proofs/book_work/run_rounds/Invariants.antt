use Rattle.std.proofs.Common.{◌≡◌}
use Rattle.bench.proofs.book_work.run_rounds.Given as goal

abbrev pub invariant-loop : goal.invariant-loop
invariant-loop l = l.book.entries ≡ l.fn.book.entries
