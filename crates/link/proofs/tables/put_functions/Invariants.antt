use Rattle.std.proofs.Common.{◌≡◌, Some, map, take}
use Rattle.spec_modules.specs.Memory.{written}
use Rattle.link.proofs.tables.put_functions.Given as goal

abbrev pub invariant-loop-i : goal.invariant-loop-i
invariant-loop-i g l = l.table.items ≡ written l.at (map Some (take l.i l.funcs)) l.initial.table.items
