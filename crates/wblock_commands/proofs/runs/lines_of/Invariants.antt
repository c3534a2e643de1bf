use Rattle.std.proofs.Common.{◌≡◌, ◌≤◌, string_bytes, ◌+◌, ◌*◌}
use Rattle.wblock_commands.proofs.runs.lines_of.Given as goal
use Rattle.std.specs.Prelude.{drop, ◌++◌, string_bytes}
use Rattle.wblock_commands.specs.Runs.{lines_from, fuel_of}

abbrev pub invariant-loop-receipt : goal.invariant-loop-receipt
invariant-loop-receipt l = (l.position ≡ l.receipt-index) × (l.fuel ≤ l.receipt-index * 18446744073709551615) × (l.fuel + fuel_of (drop l.receipt-index l.receipts) ≡ fuel_of l.receipts) × (string_bytes l.text ++ lines_from l.position (drop l.receipt-index l.receipts) ≡ lines_from 0 l.receipts)
