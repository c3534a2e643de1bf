-- Not checked: the names of the goals are guessed; `rt check --start Session::cells` tells them.
use Rattle.std.proofs.Common.{◌≡◌, None, true, false, cond, sym, ap, ◌∙◌, subst}
use Rattle.std.specs.FinMap.{get}
use Rattle.spec_ledger.specs.Book.{after}
use Rattle.spec_ledger.specs.Modes.{touched}
use Rattle.debugger.specs.SessionView.{SessionView, session_view_of, cells_at, ending_at, stands}
use Rattle.debugger.proofs.Turning.{is_shown, ending_is}
use Rattle.debugger.proofs.Untouched.{others}
use Rattle.debugger.proofs.session.Session.cells.Goals as goal

pub returns-then-stands-clause-cells : goal.returns-then-stands-clause-cells
returns-then-stands-clause-cells g c =
    let here = c.self.inside.here in
    let p = here.machine in
    let goes = c.self.invariant.at.turns.goes_on in
    let s : SessionView = session_view_of p here.start.now.cells c.self.inside.breaks.items in
    let is : stands (ending_at s) ≡ true = ap stands (sym (ending_is p goes) ∙ sym (c.ending.ensures (is_shown p.status goes))) ∙ sym c.stands.ensures ∙ c.if-stands.true in
    c.self.invariant.at.cells.noted.now_is ∙ ap (λ b. cond b (after s.trace s.cells) s.cells) (sym is) ∙ ap cells_at c.self.view_is

pub returns-else-stands-clause-cells : goal.returns-else-stands-clause-cells
returns-else-stands-clause-cells g c =
    let here = c.self.inside.here in
    let p = here.machine in
    let goes = c.self.invariant.at.turns.goes_on in
    let s : SessionView = session_view_of p here.start.now.cells c.self.inside.breaks.items in
    let is : stands (ending_at s) ≡ false = ap stands (sym (ending_is p goes) ∙ sym (c.ending.ensures (is_shown p.status goes))) ∙ sym c.stands.ensures ∙ c.if-stands.false in
    ap (λ b. cond b (after s.trace s.cells) s.cells) (sym is) ∙ ap cells_at c.self.view_is

pub returns-then-stands-clause-others : goal.returns-then-stands-clause-others
returns-then-stands-clause-others g c = λ lock.
    let here = c.self.inside.here in
    subst (λ (s : SessionView). get (touched s.trace) lock ≡ None → get (cells_at s) lock ≡ get s.cells lock) c.self.view_is
    (others (session_view_of here.machine here.start.now.cells c.self.inside.breaks.items) c.use_invariant.ensures.cells lock)

pub returns-else-stands-clause-others : goal.returns-else-stands-clause-others
returns-else-stands-clause-others g c = λ lock.
    let here = c.self.inside.here in
    subst (λ (s : SessionView). get (touched s.trace) lock ≡ None → get (cells_at s) lock ≡ get s.cells lock) c.self.view_is
    (others (session_view_of here.machine here.start.now.cells c.self.inside.breaks.items) c.use_invariant.ensures.cells lock)
