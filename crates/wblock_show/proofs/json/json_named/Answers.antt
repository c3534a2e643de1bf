use Rattle.std.proofs.lemmas.Result.{IfOk-weaker}
use Rattle.wblock_show.proofs.json.json_named.Goals as goal

pub returns-in-Ok-clause-answers : goal.returns-in-Ok-clause-answers
returns-in-Ok-clause-answers g c = IfOk-weaker c.in_form.result _ _ (λ a told t. record { plain = c.in-Ok.plain; tells = c.in-Ok.ensures.answers t; told = told }) c.in_form.ensures.told
