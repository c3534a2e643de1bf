use Rattle.std.proofs.Common.{List, sym, ◌∙◌}
use Rattle.spec_text.specs.Words.{Word}
use Rattle.spec_text.specs.FieldsOfPlaces as N
use Rattle.lexer.specs.WordsViews.{views}
use Rattle.text_body.specs.SharedParts.{NoneOf}
use Rattle.text_body.proofs.Pieces.{some_none}
use Rattle.text_body.proofs.Sharing.{granted, denied}
use Rattle.text_tree.specs.Places.{field_of}
use Rattle.text_tree.specs.Reading.{plain_field_at}
use Rattle.text_tree.specs.Texts.{OfField}
use Rattle.text_tree.proofs.Plain.{plain_found, plain_read}
use Rattle.text_tree.proofs.fields.field.Goals as goal

pub returns-in_default : goal.returns-in_default
returns-in_default g c =
    let old = views c.args.rest.now.now in
    let new = views c.plain_field.new.rest.now in
    let key = c.args.key in
    record {
      grammar = granted (λ f. (field_of f, new)) c.plain_field.result (plain_field_at key old) (λ (p : N.Field × List Word). OfField key old p.1 p.0) c.plain_field.ensures.value (λ p e. plain_found key old p.1 p.0 e);
      refused = denied (λ f. (field_of f, new)) c.plain_field.result (plain_field_at key old) (NoneOf (OfField key) old) c.plain_field.ensures.value
          (λ e vs f p. some_none (f, vs) (sym (plain_read (record { no_func = c.in_default.not-Func; no_global = c.in_default.not-Global; no_elem = c.in_default.not-Elem; no_data = c.in_default.not-Data }) p) ∙ e));
      shorter = c.plain_field.ensures.shorter;
    }
