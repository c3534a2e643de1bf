use Rattle.std.proofs.Common.{◌≡◌, ◌≤◌, length, drop}
use Rattle.std.specs.Prelude.{◌↔◌}
use Rattle.spec_ledger.specs.Shards.{entries_in, shard_of}
use Rattle.sharding.proofs.parts.are_entries_in.Given as goal

-- what is left of both is the same just where both are
abbrev pub invariant-loop-entry : goal.invariant-loop-entry
invariant-loop-entry g l = record {
  left : (l.own ≡ entries_in (shard_of l.shards) l.shard l.journal) ↔ (drop l.next l.own ≡ entries_in (shard_of l.shards) l.shard (drop l.entry-index l.journal));
  within : l.next ≤ length l.own;
}
