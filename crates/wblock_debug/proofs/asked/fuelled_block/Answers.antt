use Rattle.wblock_usage.specs.Words.{choice}
use Rattle.wblock_usage.proofs.Colons.{at_none}
use Rattle.wblock_debug.proofs.Options.{in_either_order}
use Rattle.wblock_debug.proofs.asked.fuelled_block.Goals as goal

pub returns : goal.returns
returns c = in_either_order (choice c.args.first) (choice c.args.second) c.block_with_fuel-2.result (at_none _ _ _ c.in_default.is c.in_ok-found.ensures) c.block_with_fuel-2.ensures
