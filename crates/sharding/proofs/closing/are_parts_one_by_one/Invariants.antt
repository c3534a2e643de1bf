use Rattle.std.proofs.Common.{ℕ, ◌<◌, length}
use Rattle.std.specs.Prelude.{slice_index_or}
use Rattle.spec_ledger.specs.Shards.{shard_of}
use Rattle.sharding.specs.Parts.{Part, IsPart, IsPartOf}
use Rattle.sharding.proofs.closing.are_parts_one_by_one.Given as goal

-- each shard looked at is its part of the book
abbrev pub invariant-loop-shard : goal.invariant-loop-shard
invariant-loop-shard g l = record {
  parts : (shard : ℕ) (other : Part) → shard < l.shard → IsPartOf (shard_of (length l.parts)) l.opening.cells l.journal shard (slice_index_or l.parts shard other);
  whole : (shard : ℕ) (other : Part) → shard < l.shard → IsPart (slice_index_or l.parts shard other);
}
