use Rattle.std.proofs.Common.{ap, ◌∙◌, sym, subst}
use Rattle.interp.specs.MachineViews.{ending, IsShown}
use Rattle.interp.proofs.machine.Machine.ending.Goals as goal

pub returns : goal.returns
returns g c o = c.ending_of_run.ensures (subst (λ p. IsShown p.status) (sym c.self.view_is) o) ∙ ap ending c.self.view_is
