use Rattle.std.proofs.Common.{◌≡◌, ◌∙◌, sym}
use Rattle.spec_ledger.specs.Events.{CommitDone, IsOther, IsStale}
use Rattle.boost.specs.declared.book.CommitRefusal.TheVariants.{Differs, Stale}
use Rattle.shards.proofs.SharedBookTakings.{happened, refused}
use Rattle.shards.proofs.shared.SharedBook.commit.Goals as goal

pub returns-clause-ok : goal.returns-clause-ok
returns-clause-ok g c =
    let ticket = c.args.ticket in
    let run = c.args.run.now in
    happened (λ position old new. CommitDone old new ticket.call ticket.number run.trace.now run.outcome position) c.commit.result c.deref.result.now c.deref_mut.result.now c.commit.new.self (c.deref_mut.ensures.value ∙ sym c.deref.ensures) c.look.ensures c.commit.ensures.ok

pub returns-clause-stale : goal.returns-clause-stale
returns-clause-stale g c =
    let ticket = c.args.ticket in
    refused (λ e. e.1 ≡ Stale) (λ book. IsStale book ticket.call ticket.number) c.commit.result c.deref.result.now c.deref_mut.result.now (c.deref_mut.ensures.value ∙ sym c.deref.ensures) c.look.ensures c.commit.ensures.stale

pub returns-clause-differs : goal.returns-clause-differs
returns-clause-differs g c =
    let ticket = c.args.ticket in
    let run = c.args.run.now in
    refused (λ e. e.1 ≡ Differs) (λ book. IsOther book ticket.call ticket.number run.trace.now) c.commit.result c.deref.result.now c.deref_mut.result.now (c.deref_mut.ensures.value ∙ sym c.deref.ensures) c.look.ensures c.commit.ensures.differs
