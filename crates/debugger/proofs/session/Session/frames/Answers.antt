-- Not checked: the names of the goals are guessed; `rt check --start Session::frames` tells them.
use Rattle.std.proofs.Common.{◌≡◌, IfOk, subst}
use Rattle.debugger.specs.SessionView.{SessionView, frames_at}
use Rattle.debugger.proofs.session.Session.frames.Goals as goal

pub returns : goal.returns
returns g c = subst (λ (s : SessionView). IfOk c.frames.result (λ frames. frames.items ≡ frames_at s)) c.self.view_is (c.frames.ensures c.self.invariant.at.turns.goes_on)
