use Rattle.std.proofs.Common.{List}
use Rattle.spec_text.specs.Words.{Word}
use Rattle.spec_text.specs.FieldsOfPlaces as N
use Rattle.lexer.specs.WordsViews.{views}
use Rattle.text_body.specs.Places.{index_of}
use Rattle.text_body.specs.SharedParts.{OneIndex, NoneOf}
use Rattle.text_body.specs.Reading.{index_at}
use Rattle.text_body.proofs.Pieces.{index_found}
use Rattle.text_body.proofs.Sharing.{granted, denied, none_of, index_is}
use Rattle.text_body.proofs.shared.index.Goals as goal

pub returns-clause-grammar : goal.returns-clause-grammar
returns-clause-grammar c =
    let old = views c.args.rest.now.now in
    granted (λ r. (index_of r, views c.index.new.rest.now)) c.index.result (index_at old) (λ (p : N.Index × List Word). OneIndex old p.1 p.0) c.index.ensures.value (λ p e. index_found old p.1 p.0 e)

pub returns-clause-refused : goal.returns-clause-refused
returns-clause-refused c =
    let old = views c.args.rest.now.now in
    denied (λ r. (index_of r, views c.index.new.rest.now)) c.index.result (index_at old) (NoneOf (OneIndex) old) c.index.ensures.value (none_of (OneIndex) (index_at) old (λ after x h. index_is old after x h))
