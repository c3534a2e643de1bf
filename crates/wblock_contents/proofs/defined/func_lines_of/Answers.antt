use Rattle.std.proofs.Common.{◌≡◌, ◌<◌, ◌++◌, length, get_or, string_bytes, ap, ◌∙◌, arith, rules}
use Rattle.module_tree.specs.ModuleView.{func_view}
use Rattle.wblock_words.specs.Names.{names_in}
use Rattle.module_tree.specs.Modules.{module_view}
use Rattle.wblock_contents.specs.ModuleText.{func_line}
use Rattle.wblock_contents.proofs.Places.{item_at, defined_at}
use Rattle.wblock_contents.proofs.Lines.{one_line}
use Rattle.wblock_contents.proofs.defined.func_lines_of.Goals as goal

pub func_line_of-requires : goal.func_line_of-requires
func_line_of-requires c =
    let funcs = c.args.tree.now.funcs.items in
    let f = c.func-item.result in
    let i = c.loop-func.func-index in
    let lt : i < length funcs = omega arith in
    let is : f ≡ get_or funcs i f = search rules in
    defined_at (module_view c.args.tree.now) c.loop-func.number i (func_view f) c.loop-func.invariant.0 (item_at func_view funcs f i lt is)

pub loop-func-preserved : goal.loop-func-preserved
loop-func-preserved c =
    let funcs = c.args.tree.now.funcs.items in
    let f = c.func-item.result in
    let i = c.loop-func.func-index in
    let lt : i < length funcs = omega arith in
    let is : f ≡ get_or funcs i f = search rules in
    let before = string_bytes c.loop-func.text in
    let pushed : string_bytes c.push_str.new.self ≡ before ++ string_bytes c.in_ok-line.line = search rules in
    let names = names_in c.args.names.now in
    let same = c.loop-func.invariant.3 in
    let left = c.names_from-left.ensures in
    let told = pushed ∙ ap (λ l. before ++ l) (c.in_ok-line.ensures names (c.first_name-name.ensures ∙ left.same c.loop-func.number (omega arith) ∙ same c.loop-func.number (omega arith))) in
    let at = c.loop-func.invariant.0 in (
      omega (arith, at),
      one_line (func_line (module_view c.args.tree.now).types names) func_view funcs f i c.loop-func.number before (string_bytes c.push_str.new.self) _ lt is c.loop-func.invariant.1 told,
      left.rises,
      λ later le. left.same later (omega (arith, le)) ∙ same later (omega (arith, le)),
    )
