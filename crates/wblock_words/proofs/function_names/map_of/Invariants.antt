use Rattle.std.proofs.Common.{◌-◌}
use Rattle.wblock_words.specs.Names.{names_in}
use Rattle.wblock_words.proofs.Maps.{IsSoFar}
use Rattle.wblock_words.proofs.function_names.map_of.Given as goal

abbrev pub invariant-loop : goal.invariant-loop
invariant-loop g l = IsSoFar l.bytes (names_in l.names.items) (l.count - l.counter) l.rest
