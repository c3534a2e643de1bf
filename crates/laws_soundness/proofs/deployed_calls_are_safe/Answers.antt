use Rattle.laws_soundness.proofs.Levels.{safe}
use Rattle.laws_soundness.proofs.deployed_calls_are_safe.Goals as goal

pub returns : goal.returns
returns _ = safe
