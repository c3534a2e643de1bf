use Rattle.std.proofs.Common.{◌∙◌, sym, subst}
use Rattle.spec_ledger.specs.Events.{IsOther, IsStale}
use Rattle.spec_ledger.specs.Shards.{part, shard_of}
use Rattle.shards.specs.Taking.{HoldsOfAShard}
use Rattle.shards.proofs.Takings.{of_shard}
use Rattle.shards.proofs.sharded.Shards.look_in.Goals as goal

pub returns-clause-stale : goal.returns-clause-stale
returns-clause-stale g c is =
    of_shard (λ old. IsStale old.book c.args.ticket.now.call c.args.ticket.now.number) c.deref.result.now c.deref-2.result.now (c.deref-2.ensures ∙ sym c.deref.ensures) c.look_at_shard.ensures (c.look.ensures.stale.0 is)

pub returns-clause-differs : goal.returns-clause-differs
returns-clause-differs g c is =
    subst (λ n. HoldsOfAShard (λ old. IsOther old.book c.args.ticket.now.call c.args.ticket.now.number (part (shard_of n) c.args.shard c.args.trace.now))) c.count.ensures.count
    (of_shard (λ old. IsOther old.book c.args.ticket.now.call c.args.ticket.now.number (part (shard_of c.count.result) c.args.shard c.args.trace.now)) c.deref.result.now c.deref-2.result.now (c.deref-2.ensures ∙ sym c.deref.ensures) c.look_at_shard.ensures (c.look.ensures.differs.0 is))
