use Rattle.std.proofs.Common.{◌∙◌}
use Rattle.wblock_calls.proofs.TextLemmas.{no_decimal, no_other_decimal}
use Rattle.wblock_calls.proofs.words.number_of.Goals as goal

pub returns-in_default : goal.returns-in_default
returns-in_default c = no_decimal c.args.word.now _ _ c.parse.ensures.value.0 c.in_default.is

pub returns : goal.returns
returns c = no_other_decimal c.args.word.now _ _ c.in-Ok.n c.parse.ensures.value.0 c.in-Ok.is (c.as_str.ensures.value ∙ c.in_ok-again.ensures.ok) c.if-eq.ensures
