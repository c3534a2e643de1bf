use Rattle.std.proofs.Common.{ℕ, ◌≡◌, ◌+◌, ◌<◌, length, get_or}
use Rattle.figures.proofs.figures.waves_of.Given as goal

abbrev pub invariant-loop-count : goal.invariant-loop-count
invariant-loop-count l = (length l.waves.items ≡ l.count-index) × ((i : ℕ) → i < l.count-index → get_or l.waves.items i 0 + 1 ≡ get_or l.counts i 0)
