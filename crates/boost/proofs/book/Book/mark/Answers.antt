use Rattle.std.proofs.Common.{◌≡◌, ◌-◌, [], length, refl, ◌∙◌, arith}
use Rattle.spec_ledger.specs.Book.{Content}
use Rattle.boost.specs.AttemptNumbers.{after_begin_with}
use Rattle.boost.proofs.Remarking.{remarks, IsBook-remark, BegunWith-mark}
use Rattle.boost.proofs.book.Book.mark.Goals as goal

pub invariant_of-self : goal.invariant_of-self
invariant_of-self g c =
    let b : Content = record { opening = c.self.inside.opening.cells; now = c.self.inside.cells.cells; entries = c.self.inside.entries.items; attempts = c.self.inside.attempts.items; begun = c.self.inside.begun.items } in
    let wide : c.len-last.result ≡ length c.self.inside.attempts.items = omega (arith, c.len-last.ensures, c.self.inside.attempts.ok.0) in
    let former = c.requires.newest.0 in
    let is : b ≡ after_begin_with former c.args.ticket.now.call c.args.ticket.now.number [] = c.self.view_is ∙ c.requires.newest.1.new_is in (
      IsBook-remark former b c.args.ticket.now.call c.args.ticket.now.number [] is (c.len-last.result - 1) c.len-last.result wide refl c.args.marks.now c.in-Ok.attempt c.in-Ok.ensures c.self.inside.cells.unsettled c.self.inside.locks c.self.inside.standings.items refl c.requires.marks c.self.invariant.0,
      c.self.invariant.1,
    )

pub returns-clause-ok : goal.returns-clause-ok
returns-clause-ok g c = λ former h.
    let b : Content = record { opening = c.self.inside.opening.cells; now = c.self.inside.cells.cells; entries = c.self.inside.entries.items; attempts = c.self.inside.attempts.items; begun = c.self.inside.begun.items } in
    let wide : c.len-last.result ≡ length c.self.inside.attempts.items = omega (arith, c.len-last.ensures, c.self.inside.attempts.ok.0) in
    let is : b ≡ after_begin_with former c.args.ticket.now.call c.args.ticket.now.number [] = c.self.view_is ∙ h.new_is in
    BegunWith-mark former c.args.self.now _ c.args.ticket.now.call c.args.ticket.now.number c.args.marks.now h c.requires.marks
    (remarks former b c.args.ticket.now.call c.args.ticket.now.number [] is (c.len-last.result - 1) c.len-last.result wide refl c.args.marks.now c.in-Ok.attempt c.in-Ok.ensures)
