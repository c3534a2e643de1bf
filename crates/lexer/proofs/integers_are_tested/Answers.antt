use Rattle.lexer.proofs.RunKinds.{integer_is_tested}
use Rattle.lexer.proofs.integers_are_tested.Goals as goal

pub returns : goal.returns
returns c = integer_is_tested
