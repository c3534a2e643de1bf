use Rattle.std.proofs.Common.{◌≡◌, ◌+◌, ◌++◌, length, map}
use Rattle.storage.specs.Slots.{merged, with_settled}
use Rattle.storage.proofs.base.merge.Given as goal

abbrev pub invariant-merge : goal.invariant-merge
invariant-merge g l = l.all.items ++ merged l.base (map with_settled l.over) ≡ merged l.fn.base (map with_settled l.fn.over)

abbrev pub decreases-merge : goal.decreases-merge
decreases-merge g l = length l.base + length l.over
