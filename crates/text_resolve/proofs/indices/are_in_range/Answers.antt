use Rattle.text_resolve.proofs.Lookups.{each_below}
use Rattle.text_resolve.proofs.indices.are_in_range.Goals as goal

pub returns : goal.returns
returns g c = each_below 4294967296 c.args.numbers.now.items c.type_inv.numbers
