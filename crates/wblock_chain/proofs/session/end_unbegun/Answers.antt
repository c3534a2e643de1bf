use Rattle.wblock_chain.proofs.Running.{told_of_memory}
use Rattle.wblock_chain.proofs.session.end_unbegun.Goals as goal

pub returns-in-NoMemory-clause-told : goal.returns-in-NoMemory-clause-told
returns-in-NoMemory-clause-told g c = λ t. told_of_memory c.end_for_memory.result (g.O.Sink.told c.args.out.now) (g.O.Sink.told c.end_for_memory.new.out) c.end_for_memory.ensures.status (c.end_for_memory.ensures.told t)
