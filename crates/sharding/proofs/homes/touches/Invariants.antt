use Rattle.std.proofs.Common.{◌≡◌, drop}
use Rattle.spec_ledger.specs.Modes.{ops_of}
use Rattle.spec_ledger.specs.Shards.{part, shard_of}
use Rattle.sharding.proofs.homes.touches.Given as goal

-- what was gone over has no operation of the shard
abbrev pub invariant-loop-step : goal.invariant-loop-step
invariant-loop-step l = ops_of (part (shard_of l.shards) l.shard l.trace) ≡ ops_of (part (shard_of l.shards) l.shard (drop l.step-index l.trace))
