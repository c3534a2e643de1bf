use Rattle.std.proofs.Common.{arith}
use Rattle.wblock_usage.proofs.Colons.{at_none}
use Rattle.wblock_debug.proofs.Options.{no_two}
use Rattle.wblock_debug.proofs.asked.block_of.Goals as goal

pub returns-in-None : goal.returns-in-None
returns-in-None c = no_two c.args.options.now _ _ (omega (arith, c.in-len2.len_at_least, c.in-len2.len_below)) (at_none _ _ _ c.in-None.is c.in_ok-block-in-len2.ensures)
