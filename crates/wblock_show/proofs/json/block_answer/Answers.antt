use Rattle.std.proofs.Common.{rules, refl}
use Rattle.wblock_show.proofs.json.block_answer.Goals as goal

pub returns : goal.returns
returns c = record { status = refl; writes = search rules; text = c.in_ok-text.ensures }
