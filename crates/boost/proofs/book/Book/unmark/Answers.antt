use Rattle.std.proofs.Common.{◌≡◌, ◌-◌, [], length, refl, ◌∙◌, arith}
use Rattle.spec_ledger.specs.Book.{Content}
use Rattle.boost.specs.AttemptNumbers.{after_begin_with}
use Rattle.boost.proofs.Remarking.{remarks, IsBook-remark, BegunAs-unmark}
use Rattle.boost.proofs.book.Book.unmark.Goals as goal

pub invariant_of-self : goal.invariant_of-self
invariant_of-self g c =
    let b : Content = record { opening = c.self.inside.opening.cells; now = c.self.inside.cells.cells; entries = c.self.inside.entries.items; attempts = c.self.inside.attempts.items; begun = c.self.inside.begun.items } in
    let wide : c.len-last.result ≡ length c.self.inside.attempts.items = omega (arith, c.len-last.ensures, c.self.inside.attempts.ok.0) in
    let former = c.requires.0 in
    let marks = c.requires.1 in
    let is : b ≡ after_begin_with former c.args.ticket.now.call c.args.ticket.now.number marks = c.self.view_is ∙ c.requires.2.new_is in (
      IsBook-remark former b c.args.ticket.now.call c.args.ticket.now.number marks is (c.len-last.result - 1) c.len-last.result wide refl [] c.fresh-attempt.result c.fresh-attempt.ensures c.self.inside.cells.unsettled c.self.inside.locks c.self.inside.standings.items c.requires.2.are_marks refl c.self.invariant.0,
      c.self.invariant.1,
    )

pub returns : goal.returns
returns g c = λ former marks h.
    let b : Content = record { opening = c.self.inside.opening.cells; now = c.self.inside.cells.cells; entries = c.self.inside.entries.items; attempts = c.self.inside.attempts.items; begun = c.self.inside.begun.items } in
    let wide : c.len-last.result ≡ length c.self.inside.attempts.items = omega (arith, c.len-last.ensures, c.self.inside.attempts.ok.0) in
    let is : b ≡ after_begin_with former c.args.ticket.now.call c.args.ticket.now.number marks = c.self.view_is ∙ h.new_is in
    BegunAs-unmark former c.args.self.now _ c.args.ticket.now.call c.args.ticket.now.number marks h
    (remarks former b c.args.ticket.now.call c.args.ticket.now.number marks is (c.len-last.result - 1) c.len-last.result wide refl [] c.fresh-attempt.result c.fresh-attempt.ensures)
