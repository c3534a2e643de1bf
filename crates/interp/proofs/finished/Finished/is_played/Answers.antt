use Rattle.std.proofs.Common.{subst}
use Rattle.interp.specs.FinishedCalls.{IsPlayed}
use Rattle.interp.proofs.finished.Finished.is_played.Goals as goal

pub returns : goal.returns
returns g c = subst IsPlayed c.self.view_is c.self.invariant.0
