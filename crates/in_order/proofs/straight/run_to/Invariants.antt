use Rattle.std.proofs.Common.{◌≡◌, length}
use Rattle.in_order.specs.Progress.{IsProgressOf}
use Rattle.in_order.proofs.straight.run_to.Given as goal

abbrev pub invariant-loop-position : goal.invariant-loop-position
invariant-loop-position g l = record { ran : IsProgressOf l.job l.ran; at : length l.ran.receipts.items ≡ l.position }
