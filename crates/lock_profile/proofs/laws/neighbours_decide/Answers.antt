use Rattle.lock_profile.proofs.Rises.{neighbours_below, from_neighbours}
use Rattle.lock_profile.proofs.laws.neighbours_decide.Goals as goal

pub returns : goal.returns
returns c = λ one next more. (neighbours_below one next more, from_neighbours one next more)
