use Rattle.std.proofs.Common.{string_bytes}
use Rattle.std.proofs.lemmas.Result.{IfOk-weaker}
use Rattle.wblock_json.proofs.values.value_line.Goals as goal

pub returns : goal.returns
returns c = IfOk-weaker c.line_of.result _ _ (λ text ends. record { line = string_bytes c.in_ok-json.json; is = c.in_ok-json.ensures; text_is = ends }) c.line_of.ensures
