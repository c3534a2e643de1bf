use Rattle.std.proofs.Common.{◌∙◌, sym}
use Rattle.spec_ledger.specs.Events.{IsStale}
use Rattle.shards.proofs.Takings.{of_shard}
use Rattle.shards.proofs.sharded.Shards.make_room_in.Goals as goal

pub returns : goal.returns
returns g c is =
    of_shard (λ old. IsStale old.book c.args.call c.args.number) c.deref.result.now c.deref_mut.result.now (c.deref_mut.ensures.value ∙ sym c.deref.ensures) c.look_at_shard.ensures (c.make_room.ensures.stale.0 is)
