use Rattle.wblock_usage.proofs.Colons.{of_last_parts}
use Rattle.wblock_usage.proofs.spot.last_parts_of.Goals as goal

pub returns : goal.returns
returns c = of_last_parts c.args.text.now _ c.rsplit_once.ensures.cases
