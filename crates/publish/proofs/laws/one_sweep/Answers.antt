use Rattle.publish.proofs.OneSweep.{one, there_is}
use Rattle.publish.proofs.laws.one_sweep.Goals as goal

pub returns : goal.returns
returns c = let grows = c.first_fit_is_admissible.ensures.grows in record { one = one grows; there_is = there_is grows }
