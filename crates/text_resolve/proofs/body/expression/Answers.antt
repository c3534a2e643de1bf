use Rattle.std.proofs.Common.{◌≡◌, ◌<◌, ◌≤◌, [], length, map, arith, rules, ap, subst}
use Rattle.std.proofs.lemmas.Result.{err_from_is_err_and}
use Rattle.module_tree.specs.View.{instrs_view, ordinals}
use Rattle.spec_text.specs.Instructions.{Body}
use Rattle.text_body.specs.Views.{text_of, flats_of}
use Rattle.text_resolve.specs.Views.{spaces_of, flats_from}
use Rattle.text_resolve.specs.Bodies.{body_at, NoBody}
use Rattle.text_resolve.proofs.Turns.{flats_past, flats_left, numbered_counts, unless_none}
use Rattle.text_resolve.proofs.Bodied.{expression_is, no_expression, not_whole, in_range}
use Rattle.text_resolve.proofs.body.expression.Goals as goal

pub returns-clause-body : goal.returns-clause-body
returns-clause-body g c =
    let d = c.deref.result.now in
    let s = spaces_of c.args.spaces.now in
    let locals = map text_of c.args.locals.now.names.items in
    let none : map text_of c.new-labels.result.open.items ≡ [] = ap (map text_of) c.new-labels.ensures in
    let same : d ≡ c.args.flats.now.items = search rules in
    let past : length d ≤ c.in_ok-body.place = grind arith in
    let e = expression_is s locals (flats_of d) (map text_of c.new-labels.result.open.items) (instrs_view c.in_ok-body.body.items) (flats_from c.in_ok-body.place d) none (flats_past d c.in_ok-body.place past) c.in_ok-body.ensures.value in
    subst (λ l. Body s locals [] (flats_of l) [] (instrs_view c.in_ok-body.body.items)) same e.0

pub returns-clause-fits : goal.returns-clause-fits
returns-clause-fits g c =
    let d = c.deref.result.now in
    let s = spaces_of c.args.spaces.now in
    let locals = map text_of c.args.locals.now.names.items in
    let none : map text_of c.new-labels.result.open.items ≡ [] = ap (map text_of) c.new-labels.ensures in
    let past : length d ≤ c.in_ok-body.place = grind arith in
    let e = expression_is s locals (flats_of d) (map text_of c.new-labels.result.open.items) (instrs_view c.in_ok-body.body.items) (flats_from c.in_ok-body.place d) none (flats_past d c.in_ok-body.place past) c.in_ok-body.ensures.value in
    e.1

pub returns-clause-in_range : goal.returns-clause-in_range
returns-clause-in_range g c =
    let d = c.deref.result.now in
    let s = spaces_of c.args.spaces.now in
    let locals = map text_of c.args.locals.now.names.items in
    let none : map text_of c.new-labels.result.open.items ≡ [] = ap (map text_of) c.new-labels.ensures in
    let past : length d ≤ c.in_ok-body.place = grind arith in
    let e = expression_is s locals (flats_of d) (map text_of c.new-labels.result.open.items) (instrs_view c.in_ok-body.body.items) (flats_from c.in_ok-body.place d) none (flats_past d c.in_ok-body.place past) c.in_ok-body.ensures.value in
    in_range (instrs_view c.in_ok-body.body.items) e.1 c.in_ok-body.ensures.fits

pub returns-clause-numbered : goal.returns-clause-numbered
returns-clause-numbered g c = numbered_counts 0 c.in_ok-body._next (ordinals c.in_ok-body.body.items) c.in_ok-body.ensures.numbered

pub returns-then-place-len-clause-refused : goal.returns-then-place-len-clause-refused
returns-then-place-len-clause-refused g c =
    let d = c.deref.result.now in
    let s = spaces_of c.args.spaces.now in
    let locals = map text_of c.args.locals.now.names.items in
    let none : map text_of c.new-labels.result.open.items ≡ [] = ap (map text_of) c.new-labels.ensures in
    let same : d ≡ c.args.flats.now.items = search rules in
    let place = c.in_ok-body.place in
    let left = flats_left d place in
    let short : place < length d = grind (arith, c.in_ok-body.ensures.within) in
    let some : 0 < length (flats_from place d) = omega arith in
    subst (λ l. NoBody s locals (flats_of l)) same
    (not_whole s locals (flats_of d) (map text_of c.new-labels.result.open.items) (instrs_view c.in_ok-body.body.items) (flats_from place d) none some c.in_ok-body.ensures.value)

pub returns-in_err-body-clause-refused : goal.returns-in_err-body-clause-refused
returns-in_err-body-clause-refused g c =
    let d = c.deref.result.now in
    let s = spaces_of c.args.spaces.now in
    let locals = map text_of c.args.locals.now.names.items in
    let labels = map text_of c.new-labels.result.open.items in
    let none : labels ≡ [] = ap (map text_of) c.new-labels.ensures in
    let same : d ≡ c.args.flats.now.items = search rules in
    let p = err_from_is_err_and c.from_residual-in_err-body.result c.from_residual-in_err-body.ensures.1 in
    rw (p.1, p.2) (unless_none c.in_err-body.field-0.0 (body_at s locals 129 labels (flats_of d)) (NoBody s locals (flats_of c.args.flats.now.items))
    (λ n. subst (λ l. NoBody s locals (flats_of l)) same (no_expression s locals (flats_of d) labels none n)) c.in_err-body.ensures.value)
