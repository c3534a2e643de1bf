use Rattle.std.proofs.Common.{ap, ◌∙◌}
use Rattle.wblock_calls.specs.Texts.{words_of}
use Rattle.wblock_calls.specs.Words.{texts}
use Rattle.wblock_calls.proofs.WordLemmas.{of_words}
use Rattle.wblock_calls.proofs.line.call_of.Goals as goal

pub returns : goal.returns
returns c = of_words _ c.args.line.now _ (ap texts c.as_slice.ensures.value ∙ (c.in_ok-words.ensures ∙ ap words_of c.in-Ok.ensures.cases.0)) c.in-Ok.ensures.cases.1 c.call_of_words.ensures
