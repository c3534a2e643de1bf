use Rattle.laws_soundness.proofs.Levels.{results, typed}
use Rattle.laws_soundness.proofs.deployed_calls_are_typed.Goals as goal

pub returns : goal.returns
returns _ = record { reached = typed; results = results }
