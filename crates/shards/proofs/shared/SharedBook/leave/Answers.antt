use Rattle.std.proofs.Common.{◌∙◌, sym}
use Rattle.spec_ledger.specs.Events.{IsNotEntered, IsStale, LeaveDone}
use Rattle.shards.proofs.SharedBookTakings.{passed, holds_of}
use Rattle.shards.proofs.shared.SharedBook.leave.Goals as goal

pub returns-clause-ok : goal.returns-clause-ok
returns-clause-ok g c =
    let ticket = c.args.ticket.now in
    passed (λ old new. LeaveDone old new ticket.call ticket.number c.args.keep) c.leave.result c.deref.result.now c.deref_mut.result.now c.leave.new.self (c.deref_mut.ensures.value ∙ sym c.deref.ensures) c.look.ensures c.leave.ensures.ok

pub returns-clause-stale : goal.returns-clause-stale
returns-clause-stale g c is =
    let ticket = c.args.ticket.now in
    holds_of (λ book. IsStale book ticket.call ticket.number) c.deref.result.now c.deref_mut.result.now (c.deref_mut.ensures.value ∙ sym c.deref.ensures) c.look.ensures (c.leave.ensures.stale.0 is)

pub returns-clause-not_entered : goal.returns-clause-not_entered
returns-clause-not_entered g c is =
    let ticket = c.args.ticket.now in
    holds_of (λ book. IsNotEntered book ticket.call ticket.number) c.deref.result.now c.deref_mut.result.now (c.deref_mut.ensures.value ∙ sym c.deref.ensures) c.look.ensures (c.leave.ensures.not_entered.0 is)
