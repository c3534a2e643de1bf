use Rattle.std.proofs.Common.{List}
use Rattle.spec_text.specs.Words.{Word}
use Rattle.wtypes.specs.declared.ValType.{ValType}
use Rattle.spec_text.specs.Grammar.{Results}
use Rattle.lexer.specs.WordsViews.{views}
use Rattle.text_body.specs.SharedParts.{NoneOf}
use Rattle.text_body.specs.Reading.{results_at}
use Rattle.text_body.proofs.Pieces.{results_read, results_found}
use Rattle.text_body.proofs.Sharing.{granted, denied, none_of}
use Rattle.text_body.proofs.shared.results.Goals as goal

pub returns-clause-grammar : goal.returns-clause-grammar
returns-clause-grammar g c =
    let old = views c.args.rest.now.now in
    granted (λ r. (r.items, views c.results.new.rest.now)) c.results.result (results_at old) (λ (p : List ValType × List Word). Results old p.1 p.0) c.results.ensures.value (λ p e. results_found old p.1 p.0 e)

pub returns-clause-refused : goal.returns-clause-refused
returns-clause-refused g c =
    let old = views c.args.rest.now.now in
    denied (λ r. (r.items, views c.results.new.rest.now)) c.results.result (results_at old) (NoneOf (Results) old) c.results.ensures.value (none_of (Results) (results_at) old (λ after x h. results_read h))
