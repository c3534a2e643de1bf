use Rattle.std.proofs.Common.{ℕ, ◌<◌}
use Rattle.serial.specs.Positions.{results_of}
use Rattle.spec_block.specs.Verdicts.{IsOther}
use Rattle.validator.proofs.compare.first_deviating.Given as goal

abbrev pub invariant-loop-at : goal.invariant-loop-at
invariant-loop-at g l = (m : ℕ) → m < l.at → ¬ (IsOther l.positions (results_of l.receipts l.touched) m)
