use Rattle.std.proofs.Common.{string_bytes, subst, sym}
use Rattle.std.proofs.lemmas.Result.{IfOk-weaker}
use Rattle.serde_json.specs.Data.{Data}
use Rattle.wblock_json.specs.Json.{IsFlat, IsJson, IsLineOf}
use Rattle.wblock_modules.proofs.FlatObjects.{deployed_flat}
use Rattle.wblock_modules.proofs.deploy.deployed_json_of.Goals as goal

pub value_line-requires : goal.value_line-requires
value_line-requires c = subst (IsFlat 127) (sym c.in_ok-value.ensures) (deployed_flat _ _ _)

pub returns : goal.returns
returns c =
    IfOk-weaker c.value_line.result _ _ (λ text h. subst (λ (d : Data). IsLineOf (IsJson d) (string_bytes text)) c.in_ok-value.ensures h) c.value_line.ensures
