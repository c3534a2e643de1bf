use Rattle.std.proofs.Common.{ap, ◌∙◌}
use Rattle.debugger.specs.SessionView.{place_at}
use Rattle.debugger.proofs.Turning.{is_shown, place_is}
use Rattle.debugger.proofs.session.Session.place.Goals as goal

pub returns : goal.returns
returns g c =
    let p = c.self.inside.here.machine in
    let goes = c.self.invariant.at.turns.goes_on in
    c.place.ensures (is_shown p.status goes) ∙ place_is p goes ∙ ap place_at c.self.view_is
