use Rattle.std.proofs.Common.{ap, ◌∙◌, sym, subst}
use Rattle.interp.specs.MachineViews.{locals_shown, IsShown}
use Rattle.interp.proofs.machine.Machine.locals.Goals as goal

pub returns : goal.returns
returns g c o = c.locals_of_call.ensures (subst (λ p. IsShown p.status) (sym c.self.view_is) o) ∙ ap locals_shown c.self.view_is
