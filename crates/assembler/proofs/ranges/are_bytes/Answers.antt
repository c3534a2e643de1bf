use Rattle.assembler.proofs.Below.{each_below}
use Rattle.assembler.proofs.ranges.are_bytes.Goals as goal

pub returns : goal.returns
returns g c = each_below 256 c.args.bytes.now.items c.type_inv.bytes
