use Rattle.std.proofs.Common.{◌≡◌, ◌++◌, length}
use Rattle.spec_block.specs.Blocks.{positions}
use Rattle.serial.specs.Positions.{results_of}
use Rattle.serial.proofs.BlocksOrders.{left_from}
use Rattle.serial.proofs.positions.positions_of.Given as goal

abbrev pub invariant-loop-profile : goal.invariant-loop-profile
invariant-loop-profile g l =
    ((goal.iterator-loop-profile g).can_next l.profile-iterator × (goal.iterator-loop-profile g).is_finite l.profile-iterator)
    × (length l.made.items ≡ length l.yielded)
    × (l.made.items ++ left_from l.touched l.order l.receipts l.touched (length l.made.items) ≡ positions l.order (results_of l.receipts l.touched))
