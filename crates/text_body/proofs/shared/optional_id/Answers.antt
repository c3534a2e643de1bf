use Rattle.std.proofs.Common.{List, Option, sym, subst}
use Rattle.spec_text.specs.Words.{Placed, Word}
use Rattle.spec_text.specs.Grammar.{OptionalId}
use Rattle.lexer.specs.WordsViews.{views}
use Rattle.text_body.proofs.Pieces.{read_is_id}
use Rattle.text_body.proofs.shared.optional_id.Goals as goal

pub returns-clause-grammar : goal.returns-clause-grammar
returns-clause-grammar c =
    let old = views c.args.rest.now.now in
    subst (λ (p : Option Placed × List Word). OptionalId old p.1 p.0) (sym c.optional_id.ensures.is) (read_is_id old)
