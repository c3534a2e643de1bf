use Rattle.std.proofs.Common.{◌≡◌, ◌+◌, ◌<◌, ℕ, length, take, get_or}
use Rattle.schedule.specs.Board.{count_of}
use Rattle.schedule.proofs.board.raise.Given as goal

abbrev pub invariant-loop-number : goal.invariant-loop-number
invariant-loop-number g l = (length l.counts.items ≡ length l.initial.counts.items) × ((k : ℕ) → k < length l.initial.counts.items → get_or l.counts.items k 0 ≡ get_or l.initial.counts.items k 0 + count_of k (take l.number-index l.numbers))
