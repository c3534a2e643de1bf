use Rattle.wblock_usage.proofs.Colons.{behind_name}
use Rattle.wblock_usage.proofs.numbers.number_after.Goals as goal

pub returns-in-Some : goal.returns-in-Some
returns-in-Some c = behind_name c.number_of.result c.args.word.now c.args.name.now c.in-Some.number.now c.requires c.in-Some.ensures c.number_of.ensures
