use Rattle.block.proofs.Told.{tells_all}
use Rattle.block.proofs.laws.version_2_tells_all.Goals as goal

pub returns : goal.returns
returns c = tells_all
