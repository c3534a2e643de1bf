use Rattle.std.proofs.Common.{◌≡◌, ◌∙◌, sym, ap, subst}
use Rattle.spec_ledger.specs.Book.{Attempt}
use Rattle.spec_ledger.specs.Events.{IsStale}
use Rattle.sharding.proofs.Tickets.{other_number}
use Rattle.sharding.proofs.shard.ticket_of.Goals as goal

pub returns-then-number-clause-none : goal.returns-then-number-clause-none
returns-then-number-clause-none g c =
    other_number c.args.book.now.attempts c.args.call c.args.number c.in_ok-ticket.ticket.number c.use_invariant.ensures.modes.apart c.in_ok-ticket.ensures.found.1 (λ e. c.if-number.true (c.number.ensures ∙ e))
