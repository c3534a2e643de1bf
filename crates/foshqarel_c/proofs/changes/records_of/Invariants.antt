use Rattle.std.proofs.Common.{◌≡◌, map, take}
use Rattle.foshqarel_c.specs.Records.{change_record}
use Rattle.foshqarel_c.proofs.changes.records_of.Given as goal

abbrev pub invariant-loop-change : goal.invariant-loop-change
invariant-loop-change l = l.all.items ≡ map change_record (take l.change-index l.changes)
