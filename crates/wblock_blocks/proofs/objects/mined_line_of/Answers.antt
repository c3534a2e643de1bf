use Rattle.std.proofs.Common.{string_bytes, subst, sym}
use Rattle.std.proofs.lemmas.Result.{IfOk-weaker}
use Rattle.serde_json.specs.Data.{Data}
use Rattle.serde_json.specs.View.{view}
use Rattle.wblock_json.specs.Json.{IsFlat, IsJson, IsLineOf}
use Rattle.wblock_json.proofs.FlatBlocks.{block_flat}
use Rattle.wblock_blocks.proofs.FlatObjects.{mined_flat}
use Rattle.wblock_blocks.proofs.objects.mined_line_of.Goals as goal

pub value_line-requires : goal.value_line-requires
value_line-requires c = subst (IsFlat 127) (sym c.in_ok-value.ensures) (mined_flat (view c.in_ok-shown.shown) c.args.left.now (subst (IsFlat 6) (sym c.in_ok-shown.ensures.data_is) (block_flat _ _ _)))

pub returns : goal.returns
returns c = IfOk-weaker c.value_line.result _ _ (λ text h. record {
  block = view c.in_ok-shown.shown;
  is_block = c.in_ok-shown.ensures;
  line = subst (λ (d : Data). IsLineOf (IsJson d) (string_bytes text)) c.in_ok-value.ensures h;
}) c.value_line.ensures
