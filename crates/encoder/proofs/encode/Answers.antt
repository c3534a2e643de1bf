use Rattle.encoder.proofs.Named.{module_spelled}
use Rattle.encoder.proofs.encode.Goals as goal

pub returns-clause-spells : goal.returns-clause-spells
returns-clause-spells g c = module_spelled c.args.tree.now
