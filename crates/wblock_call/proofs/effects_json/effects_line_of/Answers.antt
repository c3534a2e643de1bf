use Rattle.std.proofs.Common.{string_bytes, subst, sym}
use Rattle.std.proofs.lemmas.Result.{IfOk-weaker}
use Rattle.serde_json.specs.Data.{Data}
use Rattle.wblock_json.specs.Json.{IsFlat, IsJson, IsLineOf}
use Rattle.wblock_call.proofs.FlatEffects.{effects_flat}
use Rattle.wblock_call.proofs.effects_json.effects_line_of.Goals as goal

pub value_line-requires : goal.value_line-requires
value_line-requires c = subst (IsFlat 127) (sym c.in_ok-value.ensures) (effects_flat _ _ _ _)

pub returns : goal.returns
returns c =
    IfOk-weaker c.value_line.result _ _ (λ text h. subst (λ (d : Data). IsLineOf (IsJson d) (string_bytes text)) c.in_ok-value.ensures h) c.value_line.ensures
