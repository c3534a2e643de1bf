use Rattle.std.proofs.Common.{◌≡◌, ◌∷◌, ◌++◌, [], rules, List, ℕ, None, codes, decimal, string_bytes, subst}
use Rattle.std.proofs.lemmas.Result.{IfOk-weaker}
use Rattle.debugger.specs.Commands.{code_of}
use Rattle.wblock_json.specs.Json.{IsJson, IsLineOf}
use Rattle.wblock_json.specs.Refusals.{refusal_data}
use Rattle.wblock_debug.proofs.told.refusal_json_of.Goals as goal

pub returns : goal.returns
returns c =
    let is : c.as_str.result.now ≡ codes "refused command " ++ decimal (code_of c.args.refusal) ++ 10 ∷ [] = search rules in
    IfOk-weaker c.json_refusal.result _ _ (λ text told. (c.args.why.now, subst (λ (line : List ℕ). IsLineOf (IsJson (refusal_data None line c.args.why.now)) (string_bytes text)) is told)) c.json_refusal.ensures
