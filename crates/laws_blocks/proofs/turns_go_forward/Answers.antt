use Rattle.laws_blocks.proofs.Turns.{forward}
use Rattle.laws_blocks.proofs.turns_go_forward.Goals as goal

pub returns : goal.returns
returns _ = forward
