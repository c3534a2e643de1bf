use Rattle.std.proofs.Common.{Option, ap, ◌∙◌}
use Rattle.spec_ledger.specs.declared.Outcome.{Outcome}
use Rattle.spec_execution.specs.Turns.{locals_of}
use Rattle.interp.specs.MachineViews.{unless_ended}
use Rattle.debugger.specs.SessionView.{locals_at}
use Rattle.debugger.proofs.Turning.{is_shown, ending_is}
use Rattle.debugger.proofs.session.Session.locals.Goals as goal

pub returns : goal.returns
returns g c =
    let p = c.self.inside.here.machine in
    let goes = c.self.invariant.at.turns.goes_on in
    c.locals.ensures (is_shown p.status goes) ∙ ap (λ (o : Option Outcome). unless_ended o (locals_of p.config.inner.config)) (ending_is p goes) ∙ ap locals_at c.self.view_is
