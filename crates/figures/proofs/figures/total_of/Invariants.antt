use Rattle.std.proofs.Common.{◌≡◌, ◌+◌, ◌*◌, ◌≤◌, drop, sum}
use Rattle.figures.proofs.figures.total_of.Given as goal

abbrev pub invariant-loop-number : goal.invariant-loop-number
invariant-loop-number l = (l.total + sum (drop l.number-index l.numbers) ≡ sum l.numbers) × (l.total ≤ l.number-index * 18446744073709551616)
