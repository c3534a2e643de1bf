use Rattle.std.proofs.Common.{◌∙◌}
use Rattle.std.proofs.lemmas.Result.{IfOk-weaker}
use Rattle.wblock_chain.proofs.session.refuse_line.Goals as goal

pub returns : goal.returns
returns c = IfOk-weaker c.answer_with.result _ _ (λ a moves. record { said = c.as_str.result.now; ends_line = (c.args.usage.now, c.as_str.ensures.value ∙ c.in_ok-said.ensures); moves = moves }) c.answer_with.ensures
