use Rattle.std.proofs.lemmas.Result.{err_from_is_err_and}
use Rattle.spec_text.specs.declared.KeyWord.TheVariants as k
use Rattle.lexer.specs.WordsViews.{views}
use Rattle.text_body.specs.Places.{flats_of}
use Rattle.text_body.proofs.Repeats.{hand_on}
use Rattle.text_tree.specs.Places.{head_of}
use Rattle.text_tree.specs.Reading.{func_head_at}
use Rattle.text_tree.specs.Texts.{OfField}
use Rattle.text_tree.proofs.Bodied.{no_tail, headless, bodiless, func_of, func_splits, func_made}
use Rattle.text_tree.proofs.fields.func_field.Goals as goal

pub returns-in_err-head-clause-refused : goal.returns-in_err-head-clause-refused
returns-in_err-head-clause-refused g c =
    let old = views c.args.rest.now.now in
    let p = err_from_is_err_and c.from_residual.result c.from_residual.ensures.1 in
    rw (p.1, p.2) (hand_on c.in_err-head.field-0.0 (headless (OfField k.Func) func_head_at no_tail func_of func_splits old) c.in_err-head.ensures.value)

pub returns-in_err-body-clause-refused : goal.returns-in_err-body-clause-refused
returns-in_err-body-clause-refused g c =
    let old = views c.args.rest.now.now in
    let p = err_from_is_err_and c.from_residual-in_err-body.result c.from_residual-in_err-body.ensures.1 in
    rw (p.1, p.2) (hand_on c.in_err-body.field-0.0 (bodiless (OfField k.Func) func_head_at no_tail func_of func_splits old (head_of c.in_ok-head.head) (views c.func_head.new.rest.now) c.in_ok-head.ensures.value) c.in_err-body.ensures.refused)

pub returns-clause-grammar : goal.returns-clause-grammar
returns-clause-grammar g c =
    func_made (views c.args.rest.now.now) (views c.func_head.new.rest.now) (views c.body.new.rest.now) (head_of c.in_ok-head.head) (flats_of c.in_ok-body.body.items) c.in_ok-head.ensures.value c.in_ok-body.ensures.grammar
