use Rattle.std.proofs.Common.{subst}
use Rattle.debugger.specs.SessionView.{IsSessionView}
use Rattle.debugger.proofs.Turning.{is_sight}
use Rattle.debugger.proofs.session.Session.is_sight.Goals as goal

pub returns : goal.returns
returns g c =
    let here = c.self.inside.here in
    subst IsSessionView c.self.view_is (is_sight here.machine here.start.now.cells c.self.inside.breaks.items c.self.invariant.at.turns c.self.invariant.at.cells.replies)
