use Rattle.wblock_words.proofs.Fronts.{no_text, none_returned}
use Rattle.wblock_words.proofs.parts.name_and_rest.Goals as goal

pub returns-in_err-content : goal.returns-in_err-content
returns-in_err-content c = none_returned _ _ c.from_residual.result c.from_residual.ensures (λ n rest h. c.in_err-content.ensures n rest h.sized)

pub returns-in-Err : goal.returns-in-Err
returns-in-Err c = no_text c.args.bytes.now c.in_ok-content.content.now c.in_ok-content.rest.now c.in_ok-content.ensures c.in-Err.ensures.cases.0
