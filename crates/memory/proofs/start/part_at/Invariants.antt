use Rattle.std.proofs.Common.{◌-◌, vec_len}
use Rattle.memory.specs.Runs.{IsNext}
use Rattle.memory.proofs.start.part_at.Given as goal

abbrev pub invariant-loop-index : goal.invariant-loop-index
invariant-loop-index g l = IsNext l.runs.items l.index l.at

abbrev pub decreases-loop-index : goal.decreases-loop-index
decreases-loop-index g l = vec_len l.runs - l.index
