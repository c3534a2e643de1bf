use Rattle.std.proofs.Common.{length, refl}
use Rattle.spec_ledger.specs.Shards.{shard_of}
use Rattle.sharding.specs.Parts.{IsPart, IsPartOf}
use Rattle.sharding.proofs.Together.{each_more}
use Rattle.sharding.proofs.closing.are_parts_one_by_one.Goals as goal

pub loop-shard-preserved : goal.loop-shard-preserved
loop-shard-preserved g c = record {
  parts = each_more c.args.parts.now c.loop-shard.shard c.index-parts-shard.result c.index-parts-shard.is c.loop-shard-test.true
      (λ shard p. IsPartOf (shard_of (length c.args.parts.now)) c.args.opening.now.cells c.args.journal.now shard p) (c.if-not-is_part_of.ensures.0 refl) c.loop-shard.invariant.parts;
  whole = each_more c.args.parts.now c.loop-shard.shard c.index-parts-shard.result c.index-parts-shard.is c.loop-shard-test.true
      (λ shard p. IsPart p) c.use_invariant.ensures c.loop-shard.invariant.whole;
}
