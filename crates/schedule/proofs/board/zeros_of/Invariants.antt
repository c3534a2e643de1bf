use Rattle.std.proofs.Common.{◌≡◌, ◌<◌, ◌↔◌, ℕ, get_or}
use Rattle.std.specs.List.{Contains}
use Rattle.std.specs.List.Sorted.{IsStrictlyIncreasing}
use Rattle.schedule.proofs.board.zeros_of.Given as goal

abbrev pub invariant-loop-number : goal.invariant-loop-number
invariant-loop-number g l = IsStrictlyIncreasing l.list.items × ((n : ℕ) → Contains l.list.items n ↔ ((n < l.number) × (get_or l.counts n 0 ≡ 0)))
