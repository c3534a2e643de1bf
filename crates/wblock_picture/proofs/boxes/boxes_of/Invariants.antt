use Rattle.std.proofs.Common.{◌≡◌, ◌++◌, drop, string_bytes}
use Rattle.wblock_picture.specs.Boxes.{boxes}
use Rattle.wblock_picture.proofs.boxes.boxes_of.Given as goal

abbrev pub invariant-loop-position : goal.invariant-loop-position
invariant-loop-position l = (l.number ≡ l.position-index) × (string_bytes l.text ++ boxes l.number (drop l.position-index l.seats) (drop l.position-index l.positions) ≡ boxes 0 l.seats l.positions)
