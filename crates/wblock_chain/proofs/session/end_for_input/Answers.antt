use Rattle.wblock_chain.proofs.session.end_for_input.Goals as goal

pub returns-clause-told : goal.returns-clause-told
returns-clause-told g c = c.put_in_part.ensures
