use Rattle.spec_modules.proofs.Bytes.{loads_give}
use Rattle.spec_modules.proofs.numbers.loads_give_what_was_stored.Goals as goal

pub returns : goal.returns
returns c = loads_give
