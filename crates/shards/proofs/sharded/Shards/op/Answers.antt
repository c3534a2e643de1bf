use Rattle.std.proofs.Common.{subst}
use Rattle.spec_ledger.specs.Book.{Content}
use Rattle.spec_ledger.specs.Events.{OpDone}
use Rattle.sharding.specs.Shard.{HasToWait, IsReady, Shard}
use Rattle.shards.specs.Taking.{HoldsOfAShard}
use Rattle.shards.proofs.sharded.Shards.op.Goals as goal

pub returns-in-Ok-clause-ok : goal.returns-in-Ok-clause-ok
returns-in-Ok-clause-ok g c =
    let call = c.args.ticket.now.call in
    let number = c.args.ticket.now.number in
    subst (λ marks. HoldsOfAShard (λ old. (new : Shard) × (ready : Content) × IsReady old.book ready call number marks × OpDone ready new.book call number c.args.op c.in-Ok.reply)) c.steps.ensures.steps c.in-Ok.ensures.ok

pub returns-in-Err-clause-conflict : goal.returns-in-Err-clause-conflict
returns-in-Err-clause-conflict g c is =
    subst (λ marks. HoldsOfAShard (λ old. HasToWait old.book c.args.ticket.now.call c.args.ticket.now.number marks c.args.op)) c.steps.ensures.steps (c.in-Err.ensures.conflict is)
