use Rattle.std.proofs.Common.{◌*◌, ap}
use Rattle.std.specs.Prelude.{Some}
use Rattle.spec_modules.specs.Profile.{page_size}
use Rattle.memory.specs.Start.{begins}
use Rattle.memory.proofs.Lists.{all_first}
use Rattle.memory.proofs.Linear.begin.Goals as goal

pub returns : goal.returns
returns g c = ap (λ b. record { bytes = b; max = c.args.max }) (all_first c.new.result.items (begins (Some c.args.start.now)) (page_size * c.args.pages) c.new.ensures.items)
