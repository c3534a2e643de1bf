use Rattle.std.proofs.Common.{List, map}
use Rattle.spec_text.specs.Words.{Word}
use Rattle.spec_text.specs.FieldsOfPlaces as N
use Rattle.spec_text.specs.Grammar.{Indices}
use Rattle.lexer.specs.WordsViews.{views}
use Rattle.text_body.specs.Places.{index_of}
use Rattle.text_body.specs.SharedParts.{NoneOf}
use Rattle.text_body.specs.Reading.{indices_at}
use Rattle.text_body.proofs.Pieces.{indices_read, indices_found}
use Rattle.text_body.proofs.Sharing.{granted, denied, none_of}
use Rattle.text_body.proofs.shared.indices.Goals as goal

pub returns-clause-grammar : goal.returns-clause-grammar
returns-clause-grammar g c =
    let old = views c.args.rest.now.now in
    granted (λ r. (map index_of r.items, views c.indices.new.rest.now)) c.indices.result (indices_at old) (λ (p : List N.Index × List Word). Indices old p.1 p.0) c.indices.ensures.value (λ p e. indices_found old p.1 p.0 e)

pub returns-clause-refused : goal.returns-clause-refused
returns-clause-refused g c =
    let old = views c.args.rest.now.now in
    denied (λ r. (map index_of r.items, views c.indices.new.rest.now)) c.indices.result (indices_at old) (NoneOf (Indices) old) c.indices.ensures.value (none_of (Indices) (indices_at) old (λ after x h. indices_read h))
