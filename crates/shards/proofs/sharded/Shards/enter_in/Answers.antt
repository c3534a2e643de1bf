use Rattle.std.proofs.Common.{◌∙◌, sym}
use Rattle.std.proofs.lemmas.Result.{on_ok_weaker}
use Rattle.spec_ledger.specs.Book.{Content}
use Rattle.spec_ledger.specs.Events.{EnterDone, IsStale}
use Rattle.shards.proofs.Takings.{of_shard}
use Rattle.shards.proofs.sharded.Shards.enter_in.Goals as goal

pub returns-clause-ok : goal.returns-clause-ok
returns-clause-ok g c =
    on_ok_weaker c.enter.result
    (λ (h : EnterDone c.deref_mut.result.now.book c.enter.new.self.book c.args.call c.args.number).
    of_shard (λ old. (new : Content) × EnterDone old.book new c.args.call c.args.number) c.deref.result.now c.deref_mut.result.now (c.deref_mut.ensures.value ∙ sym c.deref.ensures) c.look_at_shard.ensures (c.enter.new.self.book, h)) c.enter.ensures.ok

pub returns-clause-stale : goal.returns-clause-stale
returns-clause-stale g c is =
    of_shard (λ old. IsStale old.book c.args.call c.args.number) c.deref.result.now c.deref_mut.result.now (c.deref_mut.ensures.value ∙ sym c.deref.ensures) c.look_at_shard.ensures (c.enter.ensures.stale.0 is)
