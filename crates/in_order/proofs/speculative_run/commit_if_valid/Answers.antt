use Rattle.in_order.proofs.speculative_run.commit_if_valid.Goals as goal

pub write_back-requires-clause-leaves : goal.write_back-requires-clause-leaves
write_back-requires-clause-leaves g c = c.requires.prepared.read_write_set.is.cells
