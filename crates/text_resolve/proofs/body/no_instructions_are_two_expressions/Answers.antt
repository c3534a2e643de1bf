use Rattle.text_resolve.proofs.Bodied.{expressions_are_one}
use Rattle.text_resolve.proofs.body.no_instructions_are_two_expressions.Goals as goal

pub returns : goal.returns
returns c = expressions_are_one
