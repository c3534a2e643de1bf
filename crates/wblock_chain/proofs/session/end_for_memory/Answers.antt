use Rattle.wblock_chain.proofs.session.end_for_memory.Goals as goal

pub returns-clause-told : goal.returns-clause-told
returns-clause-told g c = c.put_in_part.ensures
