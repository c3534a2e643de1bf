use Rattle.std.proofs.Common.{List}
use Rattle.spec_text.specs.Words.{Word}
use Rattle.spec_text.specs.FieldsOfPlaces as N
use Rattle.spec_text.specs.Grammar.{TypeUses}
use Rattle.lexer.specs.WordsViews.{views}
use Rattle.text_body.specs.Places.{use_of}
use Rattle.text_body.specs.SharedParts.{NoneOf}
use Rattle.text_body.specs.Reading.{use_at}
use Rattle.text_body.proofs.Pieces.{use_is_read, use_found}
use Rattle.text_body.proofs.Sharing.{granted, denied, none_of}
use Rattle.text_body.proofs.shared.type_use.Goals as goal

pub returns-clause-grammar : goal.returns-clause-grammar
returns-clause-grammar g c =
    let old = views c.args.rest.now.now in
    granted (λ r. (use_of r, views c.type_use.new.rest.now)) c.type_use.result (use_at old) (λ (p : N.TypeUse × List Word). TypeUses old p.1 p.0) c.type_use.ensures.value (λ p e. use_found old p.1 p.0 e)

pub returns-clause-refused : goal.returns-clause-refused
returns-clause-refused g c =
    let old = views c.args.rest.now.now in
    denied (λ r. (use_of r, views c.type_use.new.rest.now)) c.type_use.result (use_at old) (NoneOf (TypeUses) old) c.type_use.ensures.value (none_of (TypeUses) (use_at) old (λ after x h. use_is_read h))
