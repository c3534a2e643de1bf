use Rattle.std.proofs.Common.{◌∙◌, sym}
use Rattle.spec_ledger.specs.Events.{EnterDone, IsStale}
use Rattle.shards.proofs.SharedBookTakings.{passed, holds_of}
use Rattle.shards.proofs.shared.SharedBook.enter.Goals as goal

pub returns-clause-ok : goal.returns-clause-ok
returns-clause-ok g c =
    let ticket = c.args.ticket.now in
    passed (λ old new. EnterDone old new ticket.call ticket.number) c.enter.result c.deref.result.now c.deref_mut.result.now c.enter.new.self (c.deref_mut.ensures.value ∙ sym c.deref.ensures) c.look.ensures c.enter.ensures.ok

pub returns-clause-stale : goal.returns-clause-stale
returns-clause-stale g c is =
    let ticket = c.args.ticket.now in
    holds_of (λ book. IsStale book ticket.call ticket.number) c.deref.result.now c.deref_mut.result.now (c.deref_mut.ensures.value ∙ sym c.deref.ensures) c.look.ensures (c.enter.ensures.stale.0 is)
