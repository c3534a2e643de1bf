use Rattle.std.proofs.Common.{sym}
use Rattle.wblock_words.proofs.Maps.{is_above_last}
use Rattle.wblock_words.proofs.function_names.is_above.Goals as goal

pub returns-in-Some : goal.returns-in-Some
returns-in-Some c = sym (is_above_last c.args.names.now c.args.number c.in-Some.last.now (sym c.in-Some.ensures.value))
