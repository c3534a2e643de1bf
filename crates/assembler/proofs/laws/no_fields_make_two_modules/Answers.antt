use Rattle.assembler.proofs.Making.{modules_are_one}
use Rattle.assembler.proofs.laws.no_fields_make_two_modules.Goals as goal

pub returns : goal.returns
returns c = modules_are_one
