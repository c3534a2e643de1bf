use Rattle.lexer.proofs.Lists.{lexes_to_one}
use Rattle.lexer.proofs.no_text_lexes_to_two_lists.Goals as goal

pub returns : goal.returns
returns c = lexes_to_one
