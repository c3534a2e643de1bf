use Rattle.std.proofs.Common.{◌≡◌, ◌≤◌, ◌^◌, drop, max}
use Rattle.wblock_picture.specs.Seats.{span}
use Rattle.wblock_picture.proofs.extent.span_of.Given as goal

abbrev pub invariant-loop-number : goal.invariant-loop-number
invariant-loop-number l = (l.most ≤ 2 ^ 32) × (max l.most (span (drop l.number-index l.numbers)) ≡ span l.numbers)
