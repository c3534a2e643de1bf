use Rattle.std.proofs.lemmas.Result.{IfOk-weaker}
use Rattle.wblock_json.proofs.blocks.block_value.Goals as goal

pub returns : goal.returns
returns c = IfOk-weaker c.block_of.result _ _ (λ v is. record { figures = c.in_ok-figures.figures; are = c.in_ok-figures.ensures.figures; data_is = is }) c.block_of.ensures
