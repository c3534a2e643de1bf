use Rattle.std.proofs.Common.{◌≡◌, IfOk, subst, sym, ◌∙◌}
use Rattle.serde_json.specs.Data.{Data}
use Rattle.serde_json.specs.View.{view}
use Rattle.module_tree.specs.ModuleView.{global_type_view}
use Rattle.wblock_json.specs.Modules.{global_type_data}
use Rattle.wblock_json.proofs.Listed.{view_at_none, view_at_some}
use Rattle.wblock_json.proofs.interface.global_type_at.Goals as goal

pub returns-in-Some : goal.returns-in-Some
returns-in-Some c =
    let there = c.in-Some.ensures.lookup in
    subst (λ (d : Data). IfOk c.global_type_of.result (λ v. view v ≡ d)) (sym (view_at_some global_type_data global_type_view c.args.all.now c.args.number c.in-Some.global_type.now there.3.0 there.1)) c.global_type_of.ensures

pub returns-in-None : goal.returns-in-None
returns-in-None c = c.null.ensures ∙ sym (view_at_none global_type_data global_type_view c.args.all.now c.args.number c.in-None.ensures.lookup.3)
