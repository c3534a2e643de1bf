use Rattle.std.proofs.Common.{◌≡◌, ◌<◌, ◌≤◌, length, get_or, map, arith, rules}
use Rattle.module_tree.specs.ModuleView.{func_type_view}
use Rattle.text_body.specs.Views.{text_of}
use Rattle.text_fields.proofs.Parting.{places_past, places_at}
use Rattle.text_fields.proofs.locals.add_places.Goals as goal

pub returns-in-None-clause-added : goal.returns-in-None-clause-added
returns-in-None-clause-added g c =
    let xs = c.args.types.now.items in
    let le : length xs ≤ c.args.number = grind arith in
    places_past func_type_view xs c.args.number (map text_of c.args.names.now.items) le

pub returns-in-Some-clause-added : goal.returns-in-Some-clause-added
returns-in-Some-clause-added g c =
    let xs = c.args.types.now.items in
    let x = c.in-Some.own.now in
    let lt : c.args.number < length xs = grind arith in
    let at : x ≡ get_or xs c.args.number x = search rules in
    let is = places_at func_type_view xs c.args.number x lt at in
    search (rules, is)
