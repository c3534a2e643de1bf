use Rattle.std.proofs.Common.{◌≡◌, ◌<◌, ◌≤◌, length, get_or, map, arith, rules}
use Rattle.std.specs.List.{flat_map}
use Rattle.text_body.specs.Views.{text_of}
use Rattle.text_tree.specs.Views.{field_of}
use Rattle.text_fields.specs.NameLists.{names_in}
use Rattle.text_fields.proofs.Listing.{names_more, all_listed}
use Rattle.text_fields.proofs.spaces.names_of.Goals as goal

pub loop-field-preserved : goal.loop-field-preserved
loop-field-preserved g c =
    let xs = c.args.text.now.fields.items in
    let l = c.loop-field in
    let x = c.field-item.result in
    let lt : l.field-index < length xs = grind arith in
    let at : x ≡ get_or xs l.field-index x = search rules in
    names_more (names_in c.args.sort) field_of xs l.field-index x (map text_of l.names.items) (map text_of c.add_name.new.names.items) (flat_map (names_in c.args.sort) (map field_of xs)) lt at l.invariant
    c.in_ok-add_name.ensures.added

pub returns-clause-names : goal.returns-clause-names
returns-clause-names g c =
    let xs = c.args.text.now.fields.items in
    let l = c.loop-field in
    let le : length xs ≤ l.field-index = grind arith in
    all_listed (names_in c.args.sort) field_of xs l.field-index (map text_of l.names.items) (flat_map (names_in c.args.sort) (map field_of xs)) le l.invariant
