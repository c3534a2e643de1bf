use Rattle.std.proofs.Common.{◌≡◌, map, take}
use Rattle.foshqarel_c.specs.Records.{position_record}
use Rattle.foshqarel_c.proofs.receipts.records_of.Given as goal

abbrev pub invariant-loop-position : goal.invariant-loop-position
invariant-loop-position l = l.all.items ≡ map position_record (take l.position-index l.positions)
