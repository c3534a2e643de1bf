use Rattle.std.proofs.Common.{ap, arith}
use Rattle.std.proofs.lemmas.List.{drop_all}
use Rattle.spec_ledger.specs.Shards.{entries_in, shard_of}
use Rattle.sharding.proofs.Walks.{ended}
use Rattle.sharding.proofs.parts.are_entries_in.Goals as goal

pub returns : goal.returns
returns g c =
    ended c.args.own.now (entries_in (shard_of c.args.shards) c.args.shard c.args.journal.now) c.loop-entry.next _
    (ap (entries_in (shard_of c.args.shards) c.args.shard) (drop_all c.loop-entry.entry-index c.args.journal.now (omega (arith, c.loop-entry-test.false))))
    c.loop-entry.invariant.left c.loop-entry.invariant.within
