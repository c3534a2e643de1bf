use Rattle.std.proofs.lemmas.Result.{err_from_is_err_and}
use Rattle.lexer.specs.WordsViews.{views}
use Rattle.text_body.specs.Places.{text_of}
use Rattle.text_body.proofs.Repeats.{hand_on}
use Rattle.text_tree.specs.Places.{fields_of}
use Rattle.text_tree.proofs.Halves.{module_made, module_refused}
use Rattle.text_tree.proofs.fields.module.Goals as goal

pub returns-in_err-fields-clause-refused : goal.returns-in_err-fields-clause-refused
returns-in_err-fields-clause-refused g c =
    let p = err_from_is_err_and c.from_residual-in_err-fields.result c.from_residual-in_err-fields.ensures.1 in
    rw (p.1, p.2) (hand_on c.in_err-fields.field-0.0 (module_refused (views c.args.words.now) (views c.opened.new.rest.now) (views c.optional_id-name.new.rest.now) (text_of c.optional_id-name.result)
    c.in_ok-opened.ensures.value c.optional_id-name.ensures.grammar) c.in_err-fields.ensures.refused)

pub returns-clause-grammar : goal.returns-clause-grammar
returns-clause-grammar g c =
    module_made (views c.args.words.now) (views c.opened.new.rest.now) (views c.optional_id-name.new.rest.now) (text_of c.optional_id-name.result) (fields_of (record { fields = c.in_ok-fields.fields }))
    c.in_ok-opened.ensures.value c.optional_id-name.ensures.grammar c.in_ok-fields.ensures.grammar
