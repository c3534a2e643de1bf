use Rattle.spec_ledger.specs.Shards.{shard_of}
use Rattle.shards.proofs.Strays.{asked_in}
use Rattle.shards.proofs.sharded.has_strayed.Goals as goal

pub returns-then-strays : goal.returns-then-strays
returns-then-strays g c is =
    let stray = c.strays.ensures c.if-strays.true in
    (stray.0, stray.1, asked_in (shard_of c.args.shards) stray.0 c.args.trace.now c.loop-step.step-index _ c.loop-step-test.true stray.2)
