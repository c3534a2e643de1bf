use Rattle.spec_modules.specs.Leb.{unsigned}
use Rattle.spec_modules.specs.Reading.{unsigned_at}
use Rattle.spec_modules.specs.NumberLaws.{unsigned_takes, unsigned_again}
use Rattle.expr_reader.proofs.Numbers.{found_is, none_is}
use Rattle.expr_reader.proofs.read.u32_of.Goals as goal

pub returns-in-None-clause-value : goal.returns-in-None-clause-value
returns-in-None-clause-value c = none_is (unsigned 32) (unsigned_at 32) (unsigned_takes 32) c.args.bytes.now c.in-None.ensures.none

pub returns-in-Some-clause-value : goal.returns-in-Some-clause-value
returns-in-Some-clause-value c = found_is (unsigned 32) (unsigned_at 32) (unsigned_again 32) c.args.bytes.now c.in-Some.n c.in-Some.next c.in-Some.ensures.found.2
