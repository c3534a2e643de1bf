use Rattle.std.proofs.Common.{arith}
use Rattle.std.proofs.lemmas.List.{length-set}
use Rattle.sharding.proofs.Moving.{moved_more, left_more}
use Rattle.sharding.proofs.closing.move_on.Goals as goal

pub loop-shard-preserved : goal.loop-shard-preserved
loop-shard-preserved g c = record {
  size = (let same = length-set c.loop-shard.places c.loop-shard.shard c.in-Some.next in let size = c.loop-shard.invariant.size in omega (arith, same, size));
  moved = moved_more c.args.journal.now c.args.parts.now c.loop-shard.places c.args.position c.loop-shard.shard c.in-Some.next c.index-parts-shard.result c.index-parts-shard.is
      c.loop-shard-test.true c.loop-shard.invariant.size c.loop-shard.invariant.moved c.in-Some.ensures.after;
  left = left_more c.args.journal.now c.args.parts.now c.loop-shard.places c.args.position c.loop-shard.shard c.in-Some.next c.loop-shard.invariant.left;
}
