use Rattle.std.proofs.Common.{◌∙◌, sym}
use Rattle.std.proofs.lemmas.Result.{on_ok_weaker}
use Rattle.spec_ledger.specs.Book.{Content}
use Rattle.spec_ledger.specs.Events.{IsNotEntered, IsStale, LeaveDone}
use Rattle.shards.proofs.Takings.{of_shard}
use Rattle.shards.proofs.sharded.Shards.leave_in.Goals as goal

pub returns-clause-ok : goal.returns-clause-ok
returns-clause-ok g c =
    on_ok_weaker c.leave.result
    (λ (h : LeaveDone c.deref_mut.result.now.book c.leave.new.self.book c.args.call c.args.number c.args.keep).
    of_shard (λ old. (new : Content) × LeaveDone old.book new c.args.call c.args.number c.args.keep) c.deref.result.now c.deref_mut.result.now (c.deref_mut.ensures.value ∙ sym c.deref.ensures) c.look_at_shard.ensures (c.leave.new.self.book, h)) c.leave.ensures.ok

pub returns-clause-stale : goal.returns-clause-stale
returns-clause-stale g c is =
    of_shard (λ old. IsStale old.book c.args.call c.args.number) c.deref.result.now c.deref_mut.result.now (c.deref_mut.ensures.value ∙ sym c.deref.ensures) c.look_at_shard.ensures (c.leave.ensures.stale.0 is)

pub returns-clause-not_entered : goal.returns-clause-not_entered
returns-clause-not_entered g c is =
    of_shard (λ old. IsNotEntered old.book c.args.call c.args.number) c.deref.result.now c.deref_mut.result.now (c.deref_mut.ensures.value ∙ sym c.deref.ensures) c.look_at_shard.ensures (c.leave.ensures.not_entered.0 is)
