use Rattle.std.proofs.Common.{string_bytes}
use Rattle.std.proofs.lemmas.Result.{IfOk-weaker}
use Rattle.wblock_line.proofs.refusals.body_words.Goals as goal

pub returns : goal.returns
returns g c = IfOk-weaker c.joined.result _ _ (λ s h. record { front = string_bytes c.in_ok-words.words; site = string_bytes c.in_ok-site.site; begins = c.in_ok-words.ensures; tells = c.in_ok-site.ensures; is = h }) c.joined.ensures
