use Rattle.std.proofs.Common.{◌≡◌, ◌<◌, ℕ, length, take, get_or}
use Rattle.schedule.specs.Board.{count_in}
use Rattle.schedule.proofs.board.holders_of.Given as goal

abbrev pub invariant-loop-numbers : goal.invariant-loop-numbers
invariant-loop-numbers g l = (length l.left.items ≡ l.gates) × ((j : ℕ) → j < l.gates → get_or l.left.items j 0 ≡ count_in (take l.numbers-index l.holds) j)
