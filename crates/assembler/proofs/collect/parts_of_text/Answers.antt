use Rattle.std.proofs.Common.{◌≡◌, ◌+◌, ◌-◌, ◌<◌, Some, length, get_or, drop, map, refl, sym, ap, ◌∙◌, subst, arith, rules}
use Rattle.std.proofs.lemmas.Result.{err_from_is_err_and}
use Rattle.spec_text.specs.Fields.{count_imported}
use Rattle.module_tree.specs.ModuleView.{func_type_view}
use Rattle.text_tree.specs.Views.{field_of}
use Rattle.text_resolve.specs.Views.{spaces_of}
use Rattle.text_fields.specs.PartView.{part_view}
use Rattle.text_fields.proofs.Parting.{hand_on}
use Rattle.assembler.specs.ModuleParts.{make_at}
use Rattle.assembler.specs.FunctionCounts.{defined_funcs, count_defined}
use Rattle.assembler.specs.PartsView.{parts_view, with_types, AreInRange}
use Rattle.assembler.proofs.Collecting.{enough, counted_down, one_more, range_kept, begun, no_fields_left, none_of_part, none_put}
use Rattle.assembler.proofs.collect.parts_of_text.Goals as goal

pub loop-at-init : goal.loop-at-init
loop-at-init g c =
    let xs = c.args.text.now.fields.items in
    let s = spaces_of c.args.spaces.now in
    let n = c.in_ok-func.func in
    let types = map func_type_view c.args.spaces.now.types.items in
    let len : c.len-at.result ≡ length xs = search rules in (
      ap (λ k. make_at s (map field_of (drop k xs)) n) len ∙ no_fields_left field_of s xs n ∙ ap (λ m. Some (with_types types m)) (sym c.in_ok-parts.ensures.nothing),
      c.in_ok-parts.ensures.numbered,
      subst AreInRange (sym c.in_ok-parts.ensures.nothing) (record { imports = refl; bodies = refl; tables = refl; memories = refl; globals = refl; exports = refl; start = refl; elements = refl; datas = refl }),
      omega (arith, len),
      ap (λ k. n + count_defined (map field_of (drop k xs))) len ∙ begun field_of xs n c.in_ok-func.ensures.count,
    )

pub overflow_sub-func : goal.overflow_sub-func
overflow_sub-func g c =
    let xs = c.args.text.now.fields.items in
    let l = c.loop-at in
    let j = l.at - 1 in
    let x = c.index-field.result.now in
    let lt : j < length xs = omega (arith, l.invariant.3) in
    let at : x ≡ get_or xs j x = search rules in
    let above : l.at ≡ j + 1 = omega arith in
    omega (arith, enough field_of xs j l.at x l.func (count_imported (map field_of xs)) lt at above l.invariant.4, c.defined_funcs-func.ensures)

pub loop-at-preserved : goal.loop-at-preserved
loop-at-preserved g c =
    let xs = c.args.text.now.fields.items in
    let s = spaces_of c.args.spaces.now in
    let l = c.loop-at in
    let j = l.at - 1 in
    let x = c.index-field.result.now in
    let func = l.func - c.defined_funcs-func.result in
    let lt : j < length xs = omega (arith, l.invariant.3) in
    let at : x ≡ get_or xs j x = search rules in
    let above : l.at ≡ j + 1 = omega arith in
    let imported = count_imported (map field_of xs) in
    let number : l.func ≡ func + defined_funcs (field_of x) = omega (arith, enough field_of xs j l.at x l.func imported lt at above l.invariant.4, c.defined_funcs-func.ensures) in
    let types = map func_type_view c.args.spaces.now.types.items in
    let part = part_view c.in_ok-part.part in (
      one_more field_of s xs j l.at x func l.func types part (parts_view l.parts) (parts_view c.put.new.parts) lt at above number l.invariant.0 c.in_ok-part.ensures.part c.in_ok-put.ensures.value,
      c.in_ok-put.ensures.numbered,
      range_kept part (parts_view l.parts) (parts_view c.put.new.parts) c.in_ok-part.ensures.in_range l.invariant.2 c.in_ok-put.ensures.value,
      omega (arith, lt),
      counted_down field_of xs j l.at x func l.func imported lt at above number l.invariant.4,
    )

pub returns-in_err-part-clause-parts : goal.returns-in_err-part-clause-parts
returns-in_err-part-clause-parts g c =
    let xs = c.args.text.now.fields.items in
    let s = spaces_of c.args.spaces.now in
    let l = c.loop-at in
    let j = l.at - 1 in
    let x = c.index-field.result.now in
    let func = l.func - c.defined_funcs-func.result in
    let lt : j < length xs = omega (arith, l.invariant.3) in
    let at : x ≡ get_or xs j x = search rules in
    let above : l.at ≡ j + 1 = omega arith in
    let imported = count_imported (map field_of xs) in
    let number : l.func ≡ func + defined_funcs (field_of x) = omega (arith, enough field_of xs j l.at x l.func imported lt at above l.invariant.4, c.defined_funcs-func.ensures) in
    let types = map func_type_view c.args.spaces.now.types.items in
    let p = err_from_is_err_and c.from_residual-in_err-part.result c.from_residual-in_err-part.ensures.1 in
    rw (p.1, p.2) (hand_on c.in_err-part.field-0.0 (λ e. none_of_part field_of s xs j l.at x func l.func imported (with_types types (parts_view l.parts)) lt at above number l.invariant.4 l.invariant.0 e) c.in_err-part.ensures.part)

pub returns-in_err-put-clause-parts : goal.returns-in_err-put-clause-parts
returns-in_err-put-clause-parts g c =
    let xs = c.args.text.now.fields.items in
    let s = spaces_of c.args.spaces.now in
    let l = c.loop-at in
    let j = l.at - 1 in
    let x = c.index-field.result.now in
    let func = l.func - c.defined_funcs-func.result in
    let lt : j < length xs = omega (arith, l.invariant.3) in
    let at : x ≡ get_or xs j x = search rules in
    let above : l.at ≡ j + 1 = omega arith in
    let imported = count_imported (map field_of xs) in
    let number : l.func ≡ func + defined_funcs (field_of x) = omega (arith, enough field_of xs j l.at x l.func imported lt at above l.invariant.4, c.defined_funcs-func.ensures) in
    let types = map func_type_view c.args.spaces.now.types.items in
    let p = err_from_is_err_and c.from_residual-in_err-put.result c.from_residual-in_err-put.ensures.1 in
    rw (p.1, p.2) (hand_on c.in_err-put.field-0.0 (λ e. none_put field_of s xs j l.at x func l.func imported types (part_view c.in_ok-part.part) (parts_view l.parts) lt at above number l.invariant.4 l.invariant.0 c.in_ok-part.ensures.part e) c.in_err-put.ensures.value)
