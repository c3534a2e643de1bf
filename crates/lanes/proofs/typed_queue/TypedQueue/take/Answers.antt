use Rattle.lanes.proofs.Keeps.{takes}
use Rattle.lanes.proofs.typed_queue.TypedQueue.take.Goals as goal

pub try_pop_as-requires-clause-rule : goal.try_pop_as-requires-clause-rule
try_pop_as-requires-clause-rule g c = takes _ _ _ _ c.requires.1
