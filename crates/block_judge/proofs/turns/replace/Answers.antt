use Rattle.block_judge.proofs.turns.replace.Goals as goal

pub returns-in-Ok-clause-groups : goal.returns-in-Ok-clause-groups
returns-in-Ok-clause-groups g c = c.in-Ok.ensures.updates.0
