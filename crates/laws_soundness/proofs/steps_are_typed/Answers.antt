use Rattle.laws_soundness.proofs.Reducing.{steps_typed}
use Rattle.laws_soundness.proofs.steps_are_typed.Goals as goal

pub returns : goal.returns
returns _ = steps_typed
