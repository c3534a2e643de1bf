use Rattle.std.proofs.Common.{string_bytes, subst, sym, arith}
use Rattle.std.proofs.lemmas.Result.{IfOk-weaker}
use Rattle.serde_json.specs.Data.{Data}
use Rattle.wblock_json.specs.Json.{IsFlat, IsJson}
use Rattle.wblock_json.proofs.Flat.{deeper}
use Rattle.wblock_json.proofs.FlatBlocks.{block_flat}
use Rattle.wblock_json.proofs.blocks.block_json.Goals as goal

pub text_of-requires : goal.text_of-requires
text_of-requires c = subst (IsFlat 127) (sym c.in_ok-value.ensures.data_is) (deeper 6 127 _ (omega arith) (block_flat _ _ _))

pub returns : goal.returns
returns c =
    IfOk-weaker c.text_of.result _ _ (λ text h. record { figures = c.in_ok-value.ensures.figures; are = c.in_ok-value.ensures.are; json = subst (λ (d : Data). IsJson d (string_bytes text)) c.in_ok-value.ensures.data_is h })
    c.text_of.ensures
