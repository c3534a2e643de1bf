use Rattle.std.proofs.Common.{◌≡◌, ◌<◌, ℕ, length, take, get_or}
use Rattle.schedule.specs.Board.{pending, zeros}
use Rattle.schedule.proofs.board.shut_of.Given as goal

abbrev pub invariant-loop-gate : goal.invariant-loop-gate
invariant-loop-gate g l = (length l.shut.items ≡ l.positions) × ((j : ℕ) → j < l.positions → get_or l.shut.items j 0 ≡ pending (take l.gate l.behind) (zeros l.left) j)
