use Rattle.std.proofs.Common.{Some, None, arith}
use Rattle.lexer.proofs.Amounts.{found_bits, none_bits}
use Rattle.lexer.proofs.numbers.bits_32.Goals as goal

pub returns-in-None-clause-none : goal.returns-in-None-clause-none
returns-in-None-clause-none c = none_bits 32 c.args.text.now None c.in-None.ensures.is

pub returns-in-Some-clause-found : goal.returns-in-Some-clause-found
returns-in-Some-clause-found c = found_bits 32 (omega arith) c.args.text.now (Some c.in-Some.n) c.in-Some.ensures.is
