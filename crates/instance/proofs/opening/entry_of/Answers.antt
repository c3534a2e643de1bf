use Rattle.std.proofs.Common.{ℕ, List, Option, Some, option_map, sym, ap, ◌∙◌, subst}
use Rattle.wtypes.specs.declared.Value.{Value}
use Rattle.spec_execution.specs.Configuration.{Contract, function_at}
use Rattle.spec_execution.specs.Run.{exported, by_export, by_function}
use Rattle.module_tree.specs.ModuleView.{export_desc_view}
use Rattle.module_tree.specs.Modules.{module_view}
use Rattle.link.specs.Parts.{tree_of}
use Rattle.instance.specs.Views.{deployed_view, contract_of, HasPlace, wrong_for, wrong_by}
use Rattle.instance.proofs.opening.entry_of.Goals as goal

pub returns-in-Ok-clause-opens : goal.returns-in-Ok-clause-opens
returns-in-Ok-clause-opens g c = λ version.
    let contract : Contract = contract_of version c.args.call.now.contract c.args.contract.now in
    let found = sym (ap (λ n. exported n (module_view (tree_of c.args.contract.now)).exports) c.entry.ensures.name) ∙ (sym c.exported.ensures ∙ ap (option_map export_desc_view) (c.in-Some-Func.is ∙ ap Some c.in-Some-Func.field-0-is)) in
    let args = ap (λ (vs : List Value). by_function contract c.in-Some-Func.func vs (function_at contract.deployed c.in-Some-Func.func)) (sym c.args-in-Some-Func.ensures.args) in
    ap (by_export contract c.args.call.now.args) found ∙ (args ∙ c.in-Ok.ensures.passes version c.args.call.now.contract)

pub returns-in-Err-clause-refused : goal.returns-in-Err-clause-refused
returns-in-Err-clause-refused g c = λ version.
    let contract : Contract = contract_of version c.args.call.now.contract c.args.contract.now in
    let found = sym (ap (λ n. exported n (module_view (tree_of c.args.contract.now)).exports) c.entry.ensures.name) ∙ (sym c.exported.ensures ∙ ap (option_map export_desc_view) (c.in-Some-Func.is ∙ ap Some c.in-Some-Func.field-0-is)) in
    let args = ap (λ (vs : List Value). by_function contract c.in-Some-Func.func vs (function_at contract.deployed c.in-Some-Func.func)) (sym c.args-in-Some-Func.ensures.args) in
    ap (by_export contract c.args.call.now.args) found ∙ (args ∙ c.in-Err.ensures.refused version c.args.call.now.contract)

pub returns-in-Err-clause-place : goal.returns-in-Err-clause-place
returns-in-Err-clause-place g c =
    let d = deployed_view c.args.contract.now in
    let found = sym (ap (λ n. exported n (module_view (tree_of c.args.contract.now)).exports) c.entry.ensures.name) ∙ (sym c.exported.ensures ∙ ap (option_map export_desc_view) (c.in-Some-Func.is ∙ ap Some c.in-Some-Func.field-0-is)) in
    let args = ap (λ (vs : List Value). wrong_for vs (function_at d c.in-Some-Func.func)) c.args-in-Some-Func.ensures.args in
    subst (λ (wrong : Option ℕ). HasPlace wrong c.in-Err.refusal) (args ∙ ap (wrong_by d c.args.call.now.args) (sym found)) c.in-Err.ensures.place
