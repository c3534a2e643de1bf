use Rattle.std.proofs.Common.{string_bytes, subst, sym}
use Rattle.std.proofs.lemmas.Result.{IfOk-weaker}
use Rattle.serde_json.specs.Data.{Data}
use Rattle.wblock_json.specs.Json.{IsFlat, IsJson}
use Rattle.wblock_json.proofs.FlatModules.{module_flat}
use Rattle.wblock_json.proofs.modules.named_json.Goals as goal

pub text_of-requires : goal.text_of-requires
text_of-requires c = subst (IsFlat 127) (sym c.in_ok-value.ensures) (module_flat _ _ _)

pub returns : goal.returns
returns c =
    IfOk-weaker c.text_of.result _ _ (λ text h. subst (λ (d : Data). IsJson d (string_bytes text)) c.in_ok-value.ensures h) c.text_of.ensures
