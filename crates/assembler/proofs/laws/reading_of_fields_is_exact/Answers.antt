use Rattle.assembler.proofs.Making.{reading_is_exact}
use Rattle.assembler.proofs.laws.reading_of_fields_is_exact.Goals as goal

pub returns : goal.returns
returns c = reading_is_exact
