use Rattle.wblock_usage.proofs.Colons.{behind_name_two}
use Rattle.wblock_usage.proofs.numbers.numbers_after.Goals as goal

pub returns-in-Some : goal.returns-in-Some
returns-in-Some c = behind_name_two c.pair_of.result c.args.word.now c.args.name.now c.in-Some.numbers.now c.requires c.in-Some.ensures c.pair_of.ensures
