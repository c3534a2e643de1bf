use Rattle.std.proofs.Common.{◌≡◌, ◌∷◌, List, sym, ap, ◌∙◌}
use Rattle.spec_text.specs.Words.{Word, RightBracket}
use Rattle.lexer.specs.WordsViews.{views}
use Rattle.text_body.specs.Reading.{close_at}
use Rattle.text_body.proofs.Pieces.{some_none}
use Rattle.text_body.proofs.Sharing.{denied}
use Rattle.text_body.proofs.shared.close.Goals as goal

pub returns-clause-refused : goal.returns-clause-refused
returns-clause-refused c =
    let old = views c.args.rest.now.now in
    denied (λ r. views c.close.new.rest.now) c.close.result (close_at old) ((after : List Word) → old ≡ RightBracket ∷ after → ⊥) c.close.ensures.value (λ e after f. some_none after (sym (ap close_at f) ∙ e))
