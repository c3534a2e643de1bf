use Rattle.std.proofs.lemmas.Result.{err_from_is_err_and}
use Rattle.spec_text.specs.declared.KeyWord.TheVariants as k
use Rattle.lexer.specs.WordsViews.{views}
use Rattle.text_body.specs.Places.{text_of, flats_of}
use Rattle.text_body.proofs.Repeats.{hand_on}
use Rattle.module_tree.specs.ModuleView.{global_type_view}
use Rattle.text_tree.specs.Reading.{global_head_at}
use Rattle.text_tree.specs.Texts.{OfField}
use Rattle.text_tree.proofs.Bodied.{no_tail, headless, bodiless, global_of, global_splits, global_made}
use Rattle.text_tree.proofs.fields.global_field.Goals as goal

pub returns-in_err-name-clause-refused : goal.returns-in_err-name-clause-refused
returns-in_err-name-clause-refused g c =
    let old = views c.args.rest.now.now in
    let p = err_from_is_err_and c.from_residual.result c.from_residual.ensures.1 in
    rw (p.1, p.2) (hand_on c.in_err-name.field-0.0 (headless (OfField k.Global) global_head_at no_tail global_of global_splits old) c.in_err-name.ensures.value)

pub returns-in_err-init-clause-refused : goal.returns-in_err-init-clause-refused
returns-in_err-init-clause-refused g c =
    let old = views c.args.rest.now.now in
    let p = err_from_is_err_and c.from_residual-in_err-init.result c.from_residual-in_err-init.ensures.1 in
    rw (p.1, p.2) (hand_on c.in_err-init.field-0.0 (bodiless (OfField k.Global) global_head_at no_tail global_of global_splits old (text_of c.in_ok-name.name, global_type_view c.in_ok-name.global_type) (views c.global_head.new.rest.now) c.in_ok-name.ensures.value) c.in_err-init.ensures.refused)

pub returns-clause-grammar : goal.returns-clause-grammar
returns-clause-grammar g c =
    global_made (views c.args.rest.now.now) (views c.global_head.new.rest.now) (views c.body.new.rest.now) (text_of c.in_ok-name.name) (global_type_view c.in_ok-name.global_type) (flats_of c.in_ok-init.init.items) c.in_ok-name.ensures.value c.in_ok-init.ensures.grammar
