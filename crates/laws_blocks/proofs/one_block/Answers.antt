use Rattle.laws_blocks.proofs.OneOrder.{one_block, one_next}
use Rattle.laws_blocks.proofs.one_block.Goals as goal

pub returns : goal.returns
returns c = let one = c.one_serial_run.ensures.one in record { block = one_block one; next = one_next one }
