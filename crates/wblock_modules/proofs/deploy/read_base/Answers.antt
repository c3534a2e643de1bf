use Rattle.wblock_modules.proofs.Onto.{given}
use Rattle.wblock_modules.proofs.deploy.read_base.Goals as goal

pub returns-in-Some-clause-gives : goal.returns-in-Some-clause-gives
returns-in-Some-clause-gives g c = rw c.in-Some.is (given _ (g.F.Files.holds c.args.files.now) c.in-Some.old _ c.read_world_file.ensures.gives)
