use Rattle.assembler.proofs.Below.{each_below}
use Rattle.assembler.proofs.ranges.are_u32.Goals as goal

pub returns : goal.returns
returns g c = each_below 4294967296 c.args.numbers.now.items c.type_inv.numbers
