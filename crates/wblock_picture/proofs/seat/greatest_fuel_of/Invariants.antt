use Rattle.std.proofs.Common.{◌≡◌, drop, max}
use Rattle.wblock_picture.specs.Seats.{greatest_fuel}
use Rattle.wblock_picture.proofs.seat.greatest_fuel_of.Given as goal

abbrev pub invariant-loop-position : goal.invariant-loop-position
invariant-loop-position l = max l.greatest (greatest_fuel (drop l.position-index l.positions)) ≡ greatest_fuel l.positions
