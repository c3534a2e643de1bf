use Rattle.std.proofs.Common.{map}
use Rattle.std.proofs.lemmas.Result.{err_from_is_err_and}
use Rattle.spec_text.specs.declared.KeyWord.TheVariants as k
use Rattle.lexer.specs.WordsViews.{views}
use Rattle.text_body.specs.Places.{index_of, flats_of}
use Rattle.text_body.proofs.Repeats.{hand_on}
use Rattle.text_tree.specs.Reading.{segment_head_at, elem_tail_at}
use Rattle.text_tree.specs.Texts.{OfField}
use Rattle.text_tree.proofs.Bodied.{headless, bodiless, tailless, elem_of, elem_splits, elem_made}
use Rattle.text_tree.proofs.fields.elem_field.Goals as goal

pub returns-in_err-table-clause-refused : goal.returns-in_err-table-clause-refused
returns-in_err-table-clause-refused g c =
    let old = views c.args.rest.now.now in
    let p = err_from_is_err_and c.from_residual.result c.from_residual.ensures.1 in
    rw (p.1, p.2) (hand_on c.in_err-table.field-0.0 (headless (OfField k.Elem) segment_head_at elem_tail_at elem_of elem_splits old) c.in_err-table.ensures.value)

pub returns-in_err-offset-clause-refused : goal.returns-in_err-offset-clause-refused
returns-in_err-offset-clause-refused g c =
    let old = views c.args.rest.now.now in
    let p = err_from_is_err_and c.from_residual-in_err-offset.result c.from_residual-in_err-offset.ensures.1 in
    rw (p.1, p.2) (hand_on c.in_err-offset.field-0.0 (bodiless (OfField k.Elem) segment_head_at elem_tail_at elem_of elem_splits old (index_of c.in_ok-table.table) (views c.segment_head.new.rest.now) c.in_ok-table.ensures.value) c.in_err-offset.ensures.refused)

pub returns-in_err-funcs-clause-refused : goal.returns-in_err-funcs-clause-refused
returns-in_err-funcs-clause-refused g c =
    let old = views c.args.rest.now.now in
    let p = err_from_is_err_and c.from_residual-in_err-funcs.result c.from_residual-in_err-funcs.ensures.1 in
    rw (p.1, p.2) (hand_on c.in_err-funcs.field-0.0 (tailless (OfField k.Elem) segment_head_at elem_tail_at elem_of elem_splits old (index_of c.in_ok-table.table) (views c.segment_head.new.rest.now) (views c.body.new.rest.now) (flats_of c.in_ok-offset.offset.items) c.in_ok-table.ensures.value c.in_ok-offset.ensures.grammar) c.in_err-funcs.ensures.value)

pub returns-clause-grammar : goal.returns-clause-grammar
returns-clause-grammar g c =
    elem_made (views c.args.rest.now.now) (views c.segment_head.new.rest.now) (views c.body.new.rest.now) (views c.elem_tail.new.rest.now) (index_of c.in_ok-table.table) (flats_of c.in_ok-offset.offset.items) (map index_of c.in_ok-funcs.funcs.items)
    c.in_ok-table.ensures.value c.in_ok-offset.ensures.grammar c.in_ok-funcs.ensures.value
