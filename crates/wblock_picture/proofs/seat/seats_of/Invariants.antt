use Rattle.std.proofs.Common.{◌≡◌, ◌++◌, [], length, take, drop}
use Rattle.wblock_picture.specs.Seats.{seats}
use Rattle.wblock_picture.proofs.seat.seats_of.Given as goal

abbrev pub invariant-loop-at : goal.invariant-loop-at
invariant-loop-at l = (length l.list.items ≡ l.at) × (l.list.items ++ seats l.greatest (take l.at l.waves) (drop l.at l.positions) (drop l.at l.waves) ≡ seats l.greatest [] l.positions l.waves)
