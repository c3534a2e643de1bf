use Rattle.wblock_calls.proofs.WordLemmas.{no_values, at_none}
use Rattle.wblock_calls.proofs.words.values_of.Goals as goal

pub returns-in_default : goal.returns-in_default
returns-in_default c = no_values c.args.words.now c.loop-at.at _ c.loop-at-test.true (at_none _ _ _ c.in_default.is c.in_ok-value.ensures.none)
