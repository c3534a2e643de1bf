use Rattle.std.proofs.Common.{◌≡◌, IfOk, subst, sym, ap}
use Rattle.serde_json.specs.Data.{Data}
use Rattle.serde_json.specs.View.{view}
use Rattle.wblock_json.specs.Modules.{func_type_data}
use Rattle.wblock_json.proofs.AtIndex.{type_none, type_some}
use Rattle.wblock_json.proofs.types.type_at_index.Goals as goal

pub returns-in-Some : goal.returns-in-Some
returns-in-Some c =
    let there = c.in-Some.ensures.lookup in
    subst (λ (d : Data). IfOk c.func_type_of.result (λ v. view v ≡ d)) (sym (ap func_type_data (type_some c.args.types.now c.args.index c.in-Some.func_type.now there.3.0 there.1))) c.func_type_of.ensures

pub returns-in-None : goal.returns-in-None
returns-in-None c =
    subst (λ (d : Data). IfOk c.empty_type_of.result (λ v. view v ≡ d)) (sym (ap func_type_data (type_none c.args.types.now c.args.index c.in-None.ensures.lookup.3))) c.empty_type_of.ensures
