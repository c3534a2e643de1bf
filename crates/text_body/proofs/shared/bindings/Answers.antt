use Rattle.std.proofs.Common.{List, map}
use Rattle.spec_text.specs.Words.{Word}
use Rattle.spec_text.specs.FieldsOfPlaces as N
use Rattle.spec_text.specs.Grammar.{Bindings}
use Rattle.lexer.specs.WordsViews.{views}
use Rattle.text_body.specs.Places.{binding_of}
use Rattle.text_body.specs.SharedParts.{NoneOf}
use Rattle.text_body.specs.Reading.{bindings_at, key_of}
use Rattle.text_body.proofs.Pieces.{bindings_read, bindings_found}
use Rattle.text_body.proofs.Sharing.{granted, denied, none_of}
use Rattle.text_body.proofs.shared.bindings.Goals as goal

pub returns-clause-grammar : goal.returns-clause-grammar
returns-clause-grammar g c =
    let old = views c.args.rest.now.now in
    granted (λ r. (map binding_of r.items, views c.bindings.new.rest.now)) c.bindings.result (bindings_at c.args.part old) (λ (p : List N.Binding × List Word). Bindings (key_of c.args.part) old p.1 p.0) c.bindings.ensures.value (λ p e. bindings_found c.args.part old p.1 p.0 e)

pub returns-clause-refused : goal.returns-clause-refused
returns-clause-refused g c =
    let old = views c.args.rest.now.now in
    denied (λ r. (map binding_of r.items, views c.bindings.new.rest.now)) c.bindings.result (bindings_at c.args.part old) (NoneOf (Bindings (key_of c.args.part)) old) c.bindings.ensures.value (none_of (Bindings (key_of c.args.part)) (bindings_at c.args.part) old (λ after x h. bindings_read c.args.part h))
