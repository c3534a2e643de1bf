use Rattle.std.proofs.Common.{◌≡◌, ◌+◌, ◌≤◌, drop}
use Rattle.figures.specs.Outcomes.{number_of}
use Rattle.figures.proofs.outcomes.count_of.Given as goal

abbrev pub invariant-loop-position : goal.invariant-loop-position
invariant-loop-position l = (l.count + number_of l.kind (drop l.position-index l.positions) ≡ number_of l.kind l.positions) × (l.count ≤ l.position-index)
