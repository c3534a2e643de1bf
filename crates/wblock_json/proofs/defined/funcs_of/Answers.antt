use Rattle.std.proofs.Common.{◌≡◌, ◌<◌, [], ◌∷◌, ◌++◌, length, get_or, ap, ◌∙◌, arith, rules}
use Rattle.module_tree.specs.ModuleView.{func_view}
use Rattle.module_tree.specs.Modules.{module_view}
use Rattle.wblock_words.specs.Names.{names_in}
use Rattle.wblock_json.specs.Modules.{func_data, named_func_data}
use Rattle.wblock_json.proofs.Places.{item_at, defined_at}
use Rattle.wblock_json.proofs.Steps.{one_value}
use Rattle.wblock_json.proofs.defined.funcs_of.Goals as goal

pub func_of-requires : goal.func_of-requires
func_of-requires c =
    let funcs = c.args.tree.now.funcs.items in
    let f = c.func-item.result in
    let i = c.loop-func.func-index in
    let lt : i < length funcs = omega arith in
    let is : f ≡ get_or funcs i f = search rules in
    defined_at (module_view c.args.tree.now) c.loop-func.number i (func_view f) c.loop-func.invariant.0 (item_at func_view funcs f i lt is)

pub loop-func-preserved : goal.loop-func-preserved
loop-func-preserved c =
    let funcs = c.args.tree.now.funcs.items in
    let f = c.func-item.result in
    let i = c.loop-func.func-index in
    let lt : i < length funcs = omega arith in
    let is : f ≡ get_or funcs i f = search rules in
    let old = c.loop-func.values.items in
    let pushed : c.push.new.self.items ≡ old ++ c.in_ok-value.value ∷ [] = search rules in
    let types = (module_view c.args.tree.now).types in
    let names = names_in c.args.names.now in
    let same = c.loop-func.invariant.3 in
    let left = c.names_from-left.ensures in
    let called = c.first_name-name.ensures ∙ left.same c.loop-func.number (omega arith) ∙ same c.loop-func.number (omega arith) in
    let told = c.in_ok-value.ensures ∙ ap (λ name. func_data types name c.loop-func.number (func_view f)) called in
    let at = c.loop-func.invariant.0 in (
      omega (arith, at),
      one_value (named_func_data types names) func_view funcs f i c.loop-func.number old c.push.new.self.items c.in_ok-value.value _ lt is c.loop-func.invariant.1 pushed told,
      left.rises,
      λ later le. left.same later (omega (arith, le)) ∙ same later (omega (arith, le)),
    )
