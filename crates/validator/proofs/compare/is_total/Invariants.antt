use Rattle.std.proofs.Common.{◌≡◌, ◌+◌, take}
use Rattle.serial.specs.OrderOutcomes.{fuel_of_receipts}
use Rattle.validator.proofs.compare.is_total.Given as goal

abbrev pub invariant-loop-receipt : goal.invariant-loop-receipt
invariant-loop-receipt l = l.rest + fuel_of_receipts (take l.receipt-index l.receipts) ≡ l.fuel
