use Rattle.std.proofs.Common.{ap, ◌∙◌, sym, subst}
use Rattle.interp.specs.MachineViews.{place_shown, IsShown}
use Rattle.interp.proofs.machine.Machine.place.Goals as goal

pub returns : goal.returns
returns g c o = c.place_of_run.ensures (subst (λ p. IsShown p.status) (sym c.self.view_is) o) ∙ ap place_shown c.self.view_is
