use Rattle.std.proofs.Common.{arith}
use Rattle.lexer.proofs.Amounts.{found_bits, none_bits}
use Rattle.lexer.proofs.numbers.bits_64.Goals as goal

pub returns-clause-found : goal.returns-clause-found
returns-clause-found c = found_bits 64 (omega arith) c.args.text.now c.in_64_bits.result c.in_64_bits.ensures

pub returns-clause-none : goal.returns-clause-none
returns-clause-none c = none_bits 64 c.args.text.now c.in_64_bits.result c.in_64_bits.ensures
