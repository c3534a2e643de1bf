use Rattle.std.proofs.Common.{ap, arith}
use Rattle.std.proofs.lemmas.List.{drop_all}
use Rattle.spec_ledger.specs.Shards.{part, shard_of}
use Rattle.sharding.proofs.Walks.{ended}
use Rattle.sharding.proofs.homes.is_part.Goals as goal

pub returns : goal.returns
returns c =
    ended c.args.own.now (part (shard_of c.args.shards) c.args.shard c.args.trace.now) c.loop-step.next _
    (ap (part (shard_of c.args.shards) c.args.shard) (drop_all c.loop-step.step-index c.args.trace.now (omega (arith, c.loop-step-test.false))))
    c.loop-step.invariant.left c.loop-step.invariant.within
