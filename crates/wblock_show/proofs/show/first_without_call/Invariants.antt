use Rattle.std.proofs.Common.{ℕ, ◌<◌}
use Rattle.wblock_show.specs.Shows.{numbers_of, NamesNoCall}
use Rattle.wblock_show.proofs.show.first_without_call.Given as goal

abbrev pub invariant-loop-at : goal.invariant-loop-at
invariant-loop-at l = (m : ℕ) → m < l.at → ¬ NamesNoCall l.calls (numbers_of l.positions) m
