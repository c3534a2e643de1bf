use Rattle.std.proofs.Common.{inl, inr}
use Rattle.std.proofs.lemmas.Result.{IfOk-weaker}
use Rattle.typing_errors.proofs.sites.site_text.Goals as goal

pub returns-in-Some : goal.returns-in-Some
returns-in-Some g c = IfOk-weaker c.named_text.result _ _ (λ s h. inr (inl (record { name = c.in-Some.name.now; rest = c.as_str.result.now; is_name = c.in-Some.ensures; is = h }))) c.named_text.ensures
