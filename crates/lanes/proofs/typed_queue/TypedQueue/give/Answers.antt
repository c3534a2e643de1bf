use Rattle.lanes.proofs.Keeps.{gives}
use Rattle.lanes.proofs.typed_queue.TypedQueue.give.Goals as goal

pub try_push_as-requires-clause-rule : goal.try_push_as-requires-clause-rule
try_push_as-requires-clause-rule g c = gives _ _ _ _ _ _ c.requires.pass.1 c.requires.fact
