use Rattle.std.proofs.Common.{subst, ◌≡◌}
use Rattle.std.specs.List.{AllByRecursion}
use Rattle.spec_ledger.specs.Book.{Content}
use Rattle.spec_ledger.specs.Events.{IsStale}
use Rattle.boost.specs.AttemptNumbers.{HasTrace}
use Rattle.boost.proofs.Events.{are_standing, trace_at}
use Rattle.boost.proofs.book.Book.trace_of.Goals as goal

pub find-requires : goal.find-requires
find-requires g c =
    let b : Content = record { opening = c.self.inside.opening.cells; now = c.self.inside.cells.cells; entries = c.self.inside.entries.items; attempts = c.self.inside.attempts.items; begun = c.self.inside.begun.items } in
    are_standing b c.self.inside.cells.unsettled c.self.inside.locks c.self.inside.standings.items c.self.invariant.0 c.deref.result.now c.deref-2.result.now c.deref.ensures.value c.deref-2.ensures.value

pub returns-in_default-clause-stale : goal.returns-in_default-clause-stale
returns-in_default-clause-stale g c =
    subst (λ x. IsStale x c.args.ticket.now.call c.args.ticket.now.number) c.self.view_is
    (subst (AllByRecursion (λ a. ¬ ((a.call ≡ c.args.ticket.now.call) × (a.number ≡ c.args.ticket.now.number)))) c.deref.ensures.value c.in_default.ensures.none)

pub returns-clause-found : goal.returns-clause-found
returns-clause-found g c =
    let b : Content = record { opening = c.self.inside.opening.cells; now = c.self.inside.cells.cells; entries = c.self.inside.entries.items; attempts = c.self.inside.attempts.items; begun = c.self.inside.begun.items } in
    subst (λ x. HasTrace x c.args.ticket.now.call c.args.ticket.now.number c.trace.result.now) c.self.view_is
    (trace_at b c.self.inside.cells.unsettled c.self.inside.locks c.self.inside.standings.items c.self.invariant.0 c.args.ticket.now.call c.args.ticket.now.number c.in-Some.i c.deref.result.now c.deref.ensures.value c.in-Some.ensures.found
    c.index.result.now c.index.ensures c.trace.result.now c.trace.ensures)
