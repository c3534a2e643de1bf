use Rattle.block_judge.proofs.BlockStatements.{told}
use Rattle.block_judge.proofs.prefix_laws.tells_of_the_run.Goals as goal

pub returns : goal.returns
returns c = told c.one_block_a_spelling.ensures.one c.one_serial_run.ensures.one c.accepts_exactly_the_published.ensures.exactly
