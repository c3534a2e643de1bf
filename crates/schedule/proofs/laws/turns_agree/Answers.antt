use Rattle.schedule.proofs.Published.{turns_have}
use Rattle.schedule.proofs.laws.turns_agree.Goals as goal

pub returns : goal.returns
returns c = λ touched profiles are. turns_have touched profiles are
