use Rattle.lexer.proofs.Amounts.{found_u32, none_u32}
use Rattle.lexer.proofs.numbers.unsigned_32.Goals as goal

pub returns-in-None-clause-none : goal.returns-in-None-clause-none
returns-in-None-clause-none c = none_u32 c.args.text.now c.in-None.ensures

pub returns-in-Some-clause-found : goal.returns-in-Some-clause-found
returns-in-Some-clause-found c = found_u32 c.args.text.now c.in-Some.n c.in-Some.ensures
