use Rattle.std.proofs.Common.{ap, ◌∙◌}
use Rattle.debugger.specs.SessionView.{ending_at}
use Rattle.debugger.proofs.Turning.{is_shown, ending_is}
use Rattle.debugger.proofs.session.Session.ending.Goals as goal

pub returns : goal.returns
returns g c =
    let p = c.self.inside.here.machine in
    let goes = c.self.invariant.at.turns.goes_on in
    c.ending.ensures (is_shown p.status goes) ∙ ending_is p goes ∙ ap ending_at c.self.view_is
