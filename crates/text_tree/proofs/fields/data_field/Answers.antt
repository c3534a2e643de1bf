use Rattle.std.proofs.lemmas.Result.{err_from_is_err_and}
use Rattle.spec_text.specs.declared.KeyWord.TheVariants as k
use Rattle.lexer.specs.WordsViews.{views}
use Rattle.text_body.specs.Places.{index_of, flats_of}
use Rattle.text_body.proofs.Repeats.{hand_on}
use Rattle.text_tree.specs.Reading.{segment_head_at, data_tail_at}
use Rattle.text_tree.specs.Texts.{OfField}
use Rattle.text_tree.proofs.Bodied.{headless, bodiless, tailless, data_of, data_splits, data_made}
use Rattle.text_tree.proofs.fields.data_field.Goals as goal

pub returns-in_err-memory-clause-refused : goal.returns-in_err-memory-clause-refused
returns-in_err-memory-clause-refused g c =
    let old = views c.args.rest.now.now in
    let p = err_from_is_err_and c.from_residual.result c.from_residual.ensures.1 in
    rw (p.1, p.2) (hand_on c.in_err-memory.field-0.0 (headless (OfField k.Data) segment_head_at data_tail_at data_of data_splits old) c.in_err-memory.ensures.value)

pub returns-in_err-offset-clause-refused : goal.returns-in_err-offset-clause-refused
returns-in_err-offset-clause-refused g c =
    let old = views c.args.rest.now.now in
    let p = err_from_is_err_and c.from_residual-in_err-offset.result c.from_residual-in_err-offset.ensures.1 in
    rw (p.1, p.2) (hand_on c.in_err-offset.field-0.0 (bodiless (OfField k.Data) segment_head_at data_tail_at data_of data_splits old (index_of c.in_ok-memory.memory) (views c.segment_head.new.rest.now) c.in_ok-memory.ensures.value) c.in_err-offset.ensures.refused)

pub returns-in_err-bytes-clause-refused : goal.returns-in_err-bytes-clause-refused
returns-in_err-bytes-clause-refused g c =
    let old = views c.args.rest.now.now in
    let p = err_from_is_err_and c.from_residual-in_err-bytes.result c.from_residual-in_err-bytes.ensures.1 in
    rw (p.1, p.2) (hand_on c.in_err-bytes.field-0.0 (tailless (OfField k.Data) segment_head_at data_tail_at data_of data_splits old (index_of c.in_ok-memory.memory) (views c.segment_head.new.rest.now) (views c.body.new.rest.now) (flats_of c.in_ok-offset.offset.items) c.in_ok-memory.ensures.value c.in_ok-offset.ensures.grammar) c.in_err-bytes.ensures.value)

pub returns-clause-grammar : goal.returns-clause-grammar
returns-clause-grammar g c =
    data_made (views c.args.rest.now.now) (views c.segment_head.new.rest.now) (views c.body.new.rest.now) (views c.data_tail.new.rest.now) (index_of c.in_ok-memory.memory) (flats_of c.in_ok-offset.offset.items) (c.in_ok-bytes.bytes.items)
    c.in_ok-memory.ensures.value c.in_ok-offset.ensures.grammar c.in_ok-bytes.ensures.value
