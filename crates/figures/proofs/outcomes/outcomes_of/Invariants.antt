use Rattle.std.proofs.Common.{◌≡◌, ◌++◌, drop}
use Rattle.figures.specs.Outcomes.{counts_among}
use Rattle.figures.proofs.outcomes.outcomes_of.Given as goal

abbrev pub invariant-loop-kind : goal.invariant-loop-kind
invariant-loop-kind l = l.counts.items ++ counts_among (drop l.kind-index l.kind-items) l.positions ≡ counts_among l.kind-items l.positions
