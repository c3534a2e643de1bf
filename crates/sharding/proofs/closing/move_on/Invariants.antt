use Rattle.std.proofs.Common.{ℕ, ◌+◌, ◌<◌, ◌≤◌, length}
use Rattle.std.specs.Prelude.{slice_index_or}
use Rattle.spec_ledger.specs.Shards.{shard_of}
use Rattle.sharding.specs.Parts.{Part}
use Rattle.sharding.specs.Places.{IsAt}
use Rattle.sharding.proofs.closing.move_on.Given as goal

-- the shards gone over are one entry of the journal further than the others
abbrev pub invariant-loop-shard : goal.invariant-loop-shard
invariant-loop-shard g l = record {
  size : length l.parts ≤ length l.places;
  moved : (shard : ℕ) (other : Part) → shard < l.shard → IsAt (shard_of (length l.parts)) shard (slice_index_or l.parts shard other).entries l.journal (slice_index_or l.places shard 0) (l.position + 1);
  left : (shard : ℕ) (other : Part) → l.shard ≤ shard → shard < length l.parts
      → IsAt (shard_of (length l.parts)) shard (slice_index_or l.parts shard other).entries l.journal (slice_index_or l.places shard 0) l.position;
}
