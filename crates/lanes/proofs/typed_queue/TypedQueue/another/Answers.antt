use Rattle.lanes.proofs.Keeps.{forks}
use Rattle.lanes.proofs.typed_queue.TypedQueue.another.Goals as goal

pub another-token-requires-clause-rule : goal.another-token-requires-clause-rule
another-token-requires-clause-rule g c = forks _ _ _ _ c.requires.1
