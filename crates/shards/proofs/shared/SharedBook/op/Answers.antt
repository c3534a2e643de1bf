use Rattle.std.proofs.Common.{◌∙◌, sym}
use Rattle.spec_ledger.specs.Events.{IsConflict, IsStale, OpDone}
use Rattle.shards.proofs.SharedBookTakings.{happened, holds_of}
use Rattle.shards.proofs.shared.SharedBook.op.Goals as goal

pub returns-clause-ok : goal.returns-clause-ok
returns-clause-ok g c =
    let ticket = c.args.ticket.now in
    happened (λ reply old new. OpDone old new ticket.call ticket.number c.args.op reply) c.op.result c.deref.result.now c.deref_mut.result.now c.op.new.self (c.deref_mut.ensures.value ∙ sym c.deref.ensures) c.look.ensures c.op.ensures.ok

pub returns-clause-conflict : goal.returns-clause-conflict
returns-clause-conflict g c is =
    let ticket = c.args.ticket.now in
    holds_of (λ book. IsConflict book ticket.call ticket.number c.args.op) c.deref.result.now c.deref_mut.result.now (c.deref_mut.ensures.value ∙ sym c.deref.ensures) c.look.ensures (c.op.ensures.conflict.0 is)

pub returns-clause-stale : goal.returns-clause-stale
returns-clause-stale g c is =
    let ticket = c.args.ticket.now in
    holds_of (λ book. IsStale book ticket.call ticket.number) c.deref.result.now c.deref_mut.result.now (c.deref_mut.ensures.value ∙ sym c.deref.ensures) c.look.ensures (c.op.ensures.stale.0 is)
