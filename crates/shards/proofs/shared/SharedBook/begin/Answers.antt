use Rattle.std.proofs.Common.{◌≡◌, ◌≤◌, ◌∙◌, length, sym}
use Rattle.std.proofs.lemmas.Result.{IfOk-weaker}
use Rattle.spec_ledger.specs.Book.{call_is_new}
use Rattle.spec_ledger.specs.Events.{BeginDone, HasNoAttempt}
use Rattle.shards.proofs.SharedBookTakings.{happened, holds_of}
use Rattle.shards.proofs.shared.SharedBook.begin.Goals as goal

pub returns-clause-ok : goal.returns-clause-ok
returns-clause-ok g c =
    let old = c.deref_mut.result.now in
    let new = c.begin.new.self in
    let call = c.args.call in
    let begun = IfOk-weaker c.begin.result (λ ticket. (ticket.call ≡ call) × BeginDone old new call ticket.number) (λ ticket. BeginDone old new call ticket.number) (λ ticket both. both.1) c.begin.ensures.ok in
    happened (λ ticket b b'. BeginDone b b' call ticket.number) c.begin.result c.deref.result.now old new (c.deref_mut.ensures.value ∙ sym c.deref.ensures) c.look.ensures begun

pub returns-clause-no_such_call : goal.returns-clause-no_such_call
returns-clause-no_such_call g c is =
    holds_of (λ book. length book.begun ≤ c.args.call) c.deref.result.now c.deref_mut.result.now (c.deref_mut.ensures.value ∙ sym c.deref.ensures) c.look.ensures (c.begin.ensures.no_such_call.0 is)

pub returns-clause-live : goal.returns-clause-live
returns-clause-live g c is =
    holds_of (λ book. ¬ (HasNoAttempt c.args.call book.attempts)) c.deref.result.now c.deref_mut.result.now (c.deref_mut.ensures.value ∙ sym c.deref.ensures) c.look.ensures (c.begin.ensures.live.0 is)

pub returns-clause-committed : goal.returns-clause-committed
returns-clause-committed g c is =
    holds_of (λ book. ¬ (call_is_new c.args.call book.entries)) c.deref.result.now c.deref_mut.result.now (c.deref_mut.ensures.value ∙ sym c.deref.ensures) c.look.ensures (c.begin.ensures.committed.0 is)
