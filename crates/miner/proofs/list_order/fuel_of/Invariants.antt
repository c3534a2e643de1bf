use Rattle.std.proofs.Common.{◌≡◌, ◌+◌, drop}
use Rattle.serial.specs.OrderOutcomes.{fuel_of_receipts}
use Rattle.miner.proofs.list_order.fuel_of.Given as goal

abbrev pub invariant-loop-receipt : goal.invariant-loop-receipt
invariant-loop-receipt l = l.fuel + fuel_of_receipts (drop l.receipt-index l.receipts) ≡ fuel_of_receipts l.receipts
