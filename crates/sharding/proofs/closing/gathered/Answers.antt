use Rattle.std.proofs.Common.{length, ◌∙◌, ap, arith}
use Rattle.std.specs.FinMap.{get, get-empty}
use Rattle.spec_ledger.specs.Cells.{lock_cmp}
use Rattle.spec_ledger.specs.Shards.{shard_of}
use Rattle.sharding.proofs.Together.{own_more, free_more}
use Rattle.sharding.proofs.closing.gathered.Goals as goal

pub loop-shard-init : goal.loop-shard-init
loop-shard-init g c = record {
  own = λ lock other below. absurd (omega (arith, below));
  free = λ lock past. ap (λ m. get m lock) c.new-all.ensures.cells ∙ get-empty lock_cmp lock;
  unsettled = c.new-all.ensures.unsettled;
}

pub loop-shard-preserved : goal.loop-shard-preserved
loop-shard-preserved g c = record {
  own = own_more c.args.parts.now c.loop-shard.shard c.index-parts-shard.result c.index-parts-shard.is c.loop-shard-test.true
      (shard_of (length c.args.parts.now)) c.loop-shard.all.cells c.gather_into.new.all.cells c.in_ok-gather_into.ensures.own c.in_ok-gather_into.ensures.others c.loop-shard.invariant.own;
  free = free_more c.args.parts.now c.loop-shard.shard c.index-parts-shard.result c.index-parts-shard.is c.loop-shard-test.true
      (shard_of (length c.args.parts.now)) c.loop-shard.all.cells c.gather_into.new.all.cells c.in_ok-gather_into.ensures.own c.in_ok-gather_into.ensures.others c.loop-shard.invariant.free;
  unsettled = c.in_ok-gather_into.ensures.unsettled ∙ c.loop-shard.invariant.unsettled;
}
