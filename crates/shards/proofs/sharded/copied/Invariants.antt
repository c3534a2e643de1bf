use Rattle.std.proofs.Common.{◌≡◌, take}
use Rattle.shards.proofs.sharded.copied.Given as goal

abbrev pub invariant-loop-step : goal.invariant-loop-step
invariant-loop-step g l = l.steps.items ≡ take l.step-index l.trace
