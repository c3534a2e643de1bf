use Rattle.std.proofs.Common.{string_bytes}
use Rattle.std.proofs.lemmas.Result.{IfOk-weaker}
use Rattle.wblock_line.proofs.Beginning.{goes_on}
use Rattle.wblock_line.proofs.refusals.item_words.Goals as goal

pub returns : goal.returns
returns g c = IfOk-weaker c.joined.result _ _ (λ s h. goes_on _ (string_bytes c.in_ok-words.words) (string_bytes c.in_ok-said.said) (string_bytes s) c.in_ok-words.ensures h) c.joined.ensures
