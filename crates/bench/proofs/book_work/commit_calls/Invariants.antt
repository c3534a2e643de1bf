use Rattle.std.proofs.Common.{◌≡◌, ◌+◌, ◌*◌, length}
use Rattle.bench.proofs.book_work.commit_calls.Given as goal

abbrev pub invariant-loop-group : goal.invariant-loop-group
invariant-loop-group l = length l.book.entries ≡ length l.fn.book.entries + l.group * 8
