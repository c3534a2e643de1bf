use Rattle.std.proofs.Common.{◌≡◌, ◌==◌, take, filter, get_or}
use Rattle.schedule.proofs.board.last_held.Given as goal

abbrev pub invariant-loop-gate : goal.invariant-loop-gate
invariant-loop-gate g l = l.opening.items ≡ filter (λ gate. get_or l.left gate 0 == 1) (take l.gate-index l.gates)
