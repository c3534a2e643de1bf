use Rattle.std.proofs.Common.{rules}
use Rattle.lanes.proofs.Keeps.{begins, founds, takes}
use Rattle.lanes.proofs.typed_queue.TypedQueue.open.Goals as goal

pub ruled-requires-clause-rule : goal.ruled-requires-clause-rule
ruled-requires-clause-rule g c = begins _

pub try_push_as-requires-clause-rule : goal.try_push_as-requires-clause-rule
try_push_as-requires-clause-rule g c = founds _ _ _ _ _ (search rules)

pub try_pop_as-key-requires-clause-rule : goal.try_pop_as-key-requires-clause-rule
try_pop_as-key-requires-clause-rule g c = takes _ _ _ c.args.key (search rules)
