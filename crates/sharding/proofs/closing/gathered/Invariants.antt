use Rattle.std.proofs.Common.{◌≡◌, ◌<◌, ◌≤◌, None, length}
use Rattle.std.specs.Prelude.{slice_index_or}
use Rattle.std.specs.FinMap.{get, empty}
use Rattle.spec_ledger.specs.declared.Lock.{Lock}
use Rattle.spec_ledger.specs.Shards.{shard_of}
use Rattle.sharding.specs.Parts.{Part}
use Rattle.sharding.proofs.closing.gathered.Given as goal

-- the cells of the shards gone over are there, at their own locks, and no others
abbrev pub invariant-loop-shard : goal.invariant-loop-shard
invariant-loop-shard g l = record {
  own : (lock : Lock) (other : Part) → shard_of (length l.parts) lock < l.shard → get l.all.cells lock ≡ get (slice_index_or l.parts (shard_of (length l.parts) lock) other).cells lock;
  free : (lock : Lock) → l.shard ≤ shard_of (length l.parts) lock → get l.all.cells lock ≡ None;
  unsettled : l.all.unsettled ≡ empty;
}
