use Rattle.std.proofs.Common.{ap, ◌∙◌, sym, subst}
use Rattle.interp.specs.MachineViews.{stack_shown, IsShown}
use Rattle.interp.proofs.machine.Machine.stack.Goals as goal

pub returns : goal.returns
returns g c o = c.stack_of_call.ensures (subst (λ p. IsShown p.status) (sym c.self.view_is) o) ∙ ap stack_shown c.self.view_is
