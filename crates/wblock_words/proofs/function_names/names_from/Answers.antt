use Rattle.wblock_words.proofs.Named.{from_first}
use Rattle.wblock_words.proofs.function_names.names_from.Goals as goal

pub returns-then-first-number-clause-from : goal.returns-then-first-number-clause-from
returns-then-first-number-clause-from c = from_first c.args.number c.loop-rest.rest.now _ c.loop-rest.invariant.rises c.if-first-number.true
