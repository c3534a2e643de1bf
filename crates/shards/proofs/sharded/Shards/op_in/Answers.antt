use Rattle.std.proofs.Common.{◌≤◌, ◌⊎◌, ◌∙◌, length, sym}
use Rattle.std.proofs.lemmas.Result.{IfOk-weaker}
use Rattle.spec_ledger.specs.Book.{Content}
use Rattle.spec_ledger.specs.Events.{OpDone}
use Rattle.sharding.specs.Shard.{HasToWait, IsOver, IsReady, Shard}
use Rattle.shards.specs.Taking.{HoldsOfAShard}
use Rattle.shards.proofs.Takings.{of_shard}
use Rattle.shards.proofs.sharded.Shards.op_in.Goals as goal

pub returns-clause-ok : goal.returns-clause-ok
returns-clause-ok g c =
    let call = c.args.call in
    let number = c.args.number in
    let op = c.args.op in
    let marks = c.args.marks.now in
    let old = c.deref_mut.result.now in
    let new = c.op_with.new.self in
    IfOk-weaker c.op_with.result (λ reply. (ready : Content) × IsReady old.book ready call number marks × OpDone ready new.book call number op reply)
    (λ reply. HoldsOfAShard (λ before. (after : Shard) × (ready : Content) × IsReady before.book ready call number marks × OpDone ready after.book call number op reply))
    (λ reply h. of_shard (λ before. (after : Shard) × (ready : Content) × IsReady before.book ready call number marks × OpDone ready after.book call number op reply) c.deref.result.now old (c.deref_mut.ensures.value ∙ sym c.deref.ensures) c.look_at_shard.ensures (new, h.0, h.1, h.2))
    c.op_with.ensures.ok

pub returns-clause-conflict : goal.returns-clause-conflict
returns-clause-conflict g c is =
    of_shard (λ old. HasToWait old.book c.args.call c.args.number c.args.marks.now c.args.op) c.deref.result.now c.deref_mut.result.now (c.deref_mut.ensures.value ∙ sym c.deref.ensures) c.look_at_shard.ensures
    ((c.op_with.ensures.conflict (λ e. cc)).0 is)

pub returns-clause-stale : goal.returns-clause-stale
returns-clause-stale g c is =
    of_shard (λ old. IsOver old.book c.args.call c.args.number ⊎ (length old.book.begun ≤ c.args.call)) c.deref.result.now c.deref_mut.result.now (c.deref_mut.ensures.value ∙ sym c.deref.ensures) c.look_at_shard.ensures
    (c.op_with.ensures.stale.0 is)
