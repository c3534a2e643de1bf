use Rattle.std.proofs.Common.{◌≡◌, ◌≤◌, length, drop}
use Rattle.std.specs.Prelude.{◌↔◌}
use Rattle.spec_ledger.specs.Shards.{part, shard_of}
use Rattle.sharding.proofs.homes.is_part.Given as goal

-- what is left of both is the same just where both are
abbrev pub invariant-loop-step : goal.invariant-loop-step
invariant-loop-step l = record {
  left : (l.own ≡ part (shard_of l.shards) l.shard l.trace) ↔ (drop l.next l.own ≡ part (shard_of l.shards) l.shard (drop l.step-index l.trace));
  within : l.next ≤ length l.own;
}
