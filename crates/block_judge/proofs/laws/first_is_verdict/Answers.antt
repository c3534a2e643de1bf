use Rattle.block_judge.proofs.Stages.{first_is}
use Rattle.block_judge.proofs.laws.first_is_verdict.Goals as goal

pub returns : goal.returns
returns c = λ world calls fuel bytes block v spelled first. first_is c.one_block_a_spelling.ensures.one world calls fuel bytes block spelled v first
