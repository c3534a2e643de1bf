use Rattle.std.proofs.Common.{rules}
use Rattle.wblock_usage.proofs.Colons.{at_some, too_great}
use Rattle.wblock_usage.proofs.spot.small_number_of.Goals as goal

pub returns-in_default-try_from : goal.returns-in_default-try_from
returns-in_default-try_from c = too_great c.args.text.now c.in-Some.number (search rules) c.in_default-try_from.ensures (at_some _ _ _ _ c.in-Some.is c.in_ok-number.ensures)
