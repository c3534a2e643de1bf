use Rattle.std.proofs.Common.{arith}
use Rattle.text_resolve.proofs.Numbers.{bits_found, bits_none}
use Rattle.text_resolve.proofs.operators.word_32.Goals as goal

pub returns-in-Some-clause-value : goal.returns-in-Some-clause-value
returns-in-Some-clause-value c = bits_found 32 c.args.piece.text.now c.in-Some.n c.in-Some.ensures.found

pub returns-in-None-clause-value : goal.returns-in-None-clause-value
returns-in-None-clause-value c = bits_none 32 (omega arith) c.args.piece.text.now c.in-None.ensures.none
