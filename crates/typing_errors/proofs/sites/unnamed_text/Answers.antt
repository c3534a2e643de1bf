use Rattle.std.proofs.Common.{inr, sym}
use Rattle.std.proofs.lemmas.Result.{IfOk-weaker}
use Rattle.typing_errors.proofs.sites.unnamed_text.Goals as goal

pub returns-in-None : goal.returns-in-None
returns-in-None g c = IfOk-weaker c.last_text.result _ _ (λ s h. inr (inr (record { rest = c.args.finding.now; is_end = sym c.in-None.ensures.view; is = h }))) c.last_text.ensures
