use Rattle.std.proofs.Common.{◌≡◌, ◌+◌, length, vec_len}
use Rattle.bench.proofs.book_work.commit_group.Given as goal

abbrev pub invariant-loop-live : goal.invariant-loop-live
invariant-loop-live l = length l.book.entries + length l.lives.items ≡ length l.fn.book.entries + length l.fn.lives.items

abbrev pub decreases-loop-live : goal.decreases-loop-live
decreases-loop-live l = vec_len l.lives
