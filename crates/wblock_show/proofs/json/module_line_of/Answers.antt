use Rattle.std.proofs.Common.{string_bytes, subst, Global}
use Rattle.std.proofs.lemmas.Result.{IfOk-weaker}
use Rattle.module_tree.specs.declared.module.Module.{Module}
use Rattle.module_tree.specs.Modules.{module_view}
use Rattle.wblock_json.specs.Modules.{IsModuleJson}
use Rattle.wblock_show.proofs.json.module_line_of.Goals as goal

pub returns : goal.returns
returns c =
    let json = subst (λ (tree : Module Global). IsModuleJson c.args.bytes.now (module_view tree) (string_bytes c.in_ok-json.json)) c.module.ensures.same c.in_ok-json.ensures in
    IfOk-weaker c.line_of.result _ _ (λ text ends. record { line = string_bytes c.in_ok-json.json; is = json; text_is = ends }) c.line_of.ensures
