use Rattle.std.proofs.Common.{option_map, ap, sym, ◌∙◌}
use Rattle.std.proofs.lemmas.Result.{IfOk-weaker}
use Rattle.wblock_calls.specs.Texts.{words_of}
use Rattle.wblock_calls.specs.Words.{texts}
use Rattle.wblock_chain.proofs.Asking.{are_lone_words}
use Rattle.wblock_chain.proofs.session.answer_text.Goals as goal

pub answer_words-requires-clause-lone : goal.answer_words-requires-clause-lone
answer_words-requires-clause-lone g c κs within = are_lone_words c.args.name.now (words_of c.args.text.now) (texts c.as_slice.result.now) (option_map (λ b. b.items) c.args.behind) c.requires.asked (ap texts c.as_slice.ensures.value ∙ c.in_ok-line.ensures)

pub returns-clause-answer : goal.returns-clause-answer
returns-clause-answer g c = IfOk-weaker c.answer_words.result _ _ (λ a answers t. answers t c.args.text.now c.utf8.text (sym (ap texts c.as_slice.ensures.value ∙ c.in_ok-line.ensures))) c.answer_words.ensures.answer
