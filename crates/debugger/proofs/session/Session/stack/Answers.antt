use Rattle.std.proofs.Common.{ap, ◌∙◌}
use Rattle.spec_execution.specs.Turns.{stack_of}
use Rattle.debugger.specs.SessionView.{stack_at}
use Rattle.debugger.proofs.Turning.{is_shown, shown_is}
use Rattle.debugger.proofs.session.Session.stack.Goals as goal

pub returns : goal.returns
returns g c =
    let p = c.self.inside.here.machine in
    let goes = c.self.invariant.at.turns.goes_on in
    c.stack.ensures (is_shown p.status goes) ∙ ap stack_of (shown_is p goes) ∙ ap stack_at c.self.view_is
