use Rattle.std.proofs.Common.{◌≡◌, ◌∙◌, ap, subst, IfSome}
use Rattle.std.specs.List.{AllByRecursion}
use Rattle.spec_ledger.specs.Book.{Content}
use Rattle.boost.proofs.Events.{are_standing}
use Rattle.boost.proofs.book.Book.ticket_of.Goals as goal

pub ticket_in-requires : goal.ticket_in-requires
ticket_in-requires g c =
    let b : Content = record { opening = c.self.inside.opening.cells; now = c.self.inside.cells.cells; entries = c.self.inside.entries.items; attempts = c.self.inside.attempts.items; begun = c.self.inside.begun.items } in
    are_standing b c.self.inside.cells.unsettled c.self.inside.locks c.self.inside.standings.items c.self.invariant.0 c.deref.result.now c.deref-2.result.now c.deref.ensures.value c.deref-2.ensures.value

pub returns-clause-found : goal.returns-clause-found
returns-clause-found g c =
    subst (λ xs. IfSome c.ticket_in.result (λ t. (t.call ≡ c.args.call) × ¬ (AllByRecursion (λ a. ¬ ((a.call ≡ c.args.call) × (a.number ≡ t.number))) xs)))
    (c.deref.ensures.value ∙ ap (λ (x : Content). x.attempts) c.self.view_is) c.ticket_in.ensures.found
