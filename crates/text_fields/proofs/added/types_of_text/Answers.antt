use Rattle.std.proofs.Common.{◌≡◌, ◌<◌, ◌≤◌, length, get_or, map, arith, rules, sym, ap, subst}
use Rattle.std.specs.List.{flat_map, filter_map}
use Rattle.spec_text.specs.TypeUses.{inline_of_field, Adds}
use Rattle.spec_text.specs.Fields.{declared_type}
use Rattle.module_tree.specs.ModuleView.{func_type_view}
use Rattle.text_tree.specs.Views.{field_of}
use Rattle.text_fields.specs.AddedTypes.{added}
use Rattle.text_fields.proofs.Adding.{adds, declared_more, added_more, all_declared, all_added_up}
use Rattle.text_fields.proofs.added.types_of_text.Goals as goal

pub loop-field-preserved : goal.loop-field-preserved
loop-field-preserved g c =
    let xs = c.args.text.now.fields.items in
    let l = c.loop-field in
    let x = c.field-item.result in
    let lt : l.field-index < length xs = grind arith in
    let at : x ≡ get_or xs l.field-index x = search rules in
    declared_more declared_type field_of xs l.field-index x (map func_type_view l.types.items) (map func_type_view c.declare.new.types.items) (filter_map declared_type (map field_of xs)) lt at l.invariant
    c.in_ok-declare.ensures.declared

pub loop-field-2-init : goal.loop-field-2-init
loop-field-2-init g c =
    let xs = c.args.text.now.fields.items in
    let l = c.loop-field in
    let le : length xs ≤ l.field-index = grind arith in
    ap (λ k. added k (flat_map inline_of_field (map field_of xs))) (all_declared declared_type field_of xs l.field-index (map func_type_view l.types.items) (filter_map declared_type (map field_of xs)) le l.invariant)

pub loop-field-2-preserved : goal.loop-field-2-preserved
loop-field-2-preserved g c =
    let xs = c.args.text.now.fields.items in
    let l = c.loop-field-2 in
    let x = c.field-item-in-loop-field-2.result in
    let lt : l.field-index < length xs = grind arith in
    let at : x ≡ get_or xs l.field-index x = search rules in
    added_more inline_of_field field_of xs l.field-index x (map func_type_view l.types.items) (map func_type_view c.add_field.new.types.items)
    (added (filter_map declared_type (map field_of xs)) (flat_map inline_of_field (map field_of xs))) lt at l.invariant c.in_ok-add_field.ensures.added

pub returns-clause-types : goal.returns-clause-types
returns-clause-types g c =
    let xs = c.args.text.now.fields.items in
    let l = c.loop-field-2 in
    let le : length xs ≤ l.field-index = grind arith in
    let declared = filter_map declared_type (map field_of xs) in
    let uses = flat_map inline_of_field (map field_of xs) in
    subst (Adds declared uses) (sym (all_added_up inline_of_field field_of xs l.field-index (map func_type_view l.types.items) (added declared uses) le l.invariant)) (adds declared uses)
