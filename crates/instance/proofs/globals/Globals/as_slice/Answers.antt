use Rattle.std.proofs.Common.{◌∙◌}
use Rattle.instance.proofs.globals.Globals.as_slice.Goals as goal

pub returns : goal.returns
returns g c = c.values_in.ensures ∙ c.self.view_is
