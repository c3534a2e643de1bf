use Rattle.std.proofs.Common.{◌≡◌, ◌≤◌, ◌^◌, drop, max}
use Rattle.wblock_picture.specs.Seats.{columns}
use Rattle.wblock_picture.proofs.extent.columns_of.Given as goal

abbrev pub invariant-loop-seat : goal.invariant-loop-seat
invariant-loop-seat l = (l.most ≤ 2 ^ 32) × (max l.most (columns (drop l.seat-index l.seats)) ≡ columns l.seats)
