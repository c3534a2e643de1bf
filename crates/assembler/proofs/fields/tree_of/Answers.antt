use Rattle.lexer.specs.Views.{views}
use Rattle.text_tree.specs.Places.{fields_of}
use Rattle.assembler.proofs.Naming.{has_fields, no_fields}
use Rattle.assembler.proofs.fields.tree_of.Goals as goal

pub returns-in-Ok-clause-fields : goal.returns-in-Ok-clause-fields
returns-in-Ok-clause-fields g c =
    let text = c.args.text.now in
    has_fields text (views text c.in_ok-tokens.tokens.items.items) (fields_of c.in-Ok.tree) c.no_text_lexes_to_two_lists.ensures c.no_words_are_two_texts.ensures c.in_ok-tokens.ensures.lexes c.in-Ok.ensures.text

pub returns-clause-refused : goal.returns-clause-refused
returns-clause-refused g c =
    let text = c.args.text.now in
    no_fields text (views text c.in_ok-tokens.tokens.items.items) c.no_text_lexes_to_two_lists.ensures c.in_ok-tokens.ensures.lexes (rw c.in-Err-Unexpected.field-0-is at c.in-Err-Unexpected.ensures.refused)

pub returns-clause-why : goal.returns-clause-why
returns-clause-why g c = record { tokens = views c.args.text.now c.in_ok-tokens.tokens.items.items; lexes = c.in_ok-tokens.ensures.lexes; no_text = rw c.in-Err-Unexpected.field-0-is at c.in-Err-Unexpected.ensures.refused }
