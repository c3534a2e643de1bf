-- Not checked: the names of the goals are guessed; `rt check --start spot_after` tells them.
use Rattle.wblock_usage.proofs.Spots.{behind_name_spot}
use Rattle.wblock_usage.proofs.debugging.spot_after.Goals as goal

pub returns-in-Some : goal.returns-in-Some
returns-in-Some c = behind_name_spot c.spot_of.result c.args.word.now c.args.name.now c.in-Some.text.now c.requires c.in-Some.ensures c.spot_of.ensures
