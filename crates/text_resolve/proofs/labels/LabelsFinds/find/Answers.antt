use Rattle.std.proofs.Common.{◌<◌, ◌≤◌, length, get_or, map, None, refl, arith, rules}
use Rattle.text_body.specs.Views.{text_of}
use Rattle.text_resolve.specs.Lookup.{is_name, find}
use Rattle.text_resolve.proofs.Lookups.{not_shifted, first_here, first_later, none_left}
use Rattle.text_resolve.proofs.labels.LabelsFinds.find.Goals as goal

pub loop-label-init : goal.loop-label-init
loop-label-init g c = (refl, not_shifted (find c.args.piece.text.now (map text_of c.args.self.now.open.items)))

pub returns-then-is_named-clause-found : goal.returns-then-is_named-clause-found
returns-then-is_named-clause-found g c =
    let l = c.loop-label in
    let xs = c.args.self.now.open.items in
    let id = c.args.piece.text.now in
    let lt : l.label-index < length xs = omega arith in
    first_here (is_name id) text_of xs l.label-index None l.next (find id (map text_of xs)) lt l.invariant.1 (get_or xs l.label-index None) refl (search rules)

pub loop-label-preserved : goal.loop-label-preserved
loop-label-preserved g c =
    let l = c.loop-label in
    let xs = c.args.self.now.open.items in
    let id = c.args.piece.text.now in
    let lt : l.label-index < length xs = omega arith in
    (omega arith, first_later (is_name id) text_of xs l.label-index None l.next (find id (map text_of xs)) lt l.invariant.1 (get_or xs l.label-index None) refl (search rules))

pub returns-clause-found : goal.returns-clause-found
returns-clause-found g c =
    let l = c.loop-label in
    let xs = c.args.self.now.open.items in
    let id = c.args.piece.text.now in
    let le : length xs ≤ l.label-index = omega arith in
    none_left (is_name id) text_of xs l.label-index l.next (find id (map text_of xs)) le l.invariant.1
