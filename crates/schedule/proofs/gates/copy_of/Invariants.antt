use Rattle.std.proofs.Common.{◌≡◌, take}
use Rattle.schedule.proofs.gates.copy_of.Given as goal

abbrev pub invariant-loop-numbers : goal.invariant-loop-numbers
invariant-loop-numbers g l = l.copy.items ≡ take l.numbers-index l.lists
