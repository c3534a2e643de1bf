use Rattle.interp.specs.Run.{seen}
use Rattle.interp.proofs.Progress.{progress_of}
use Rattle.interp.proofs.machine.Machine.turn_on.Goals as goal

pub returns-clause-on_run : goal.returns-clause-on_run
returns-clause-on_run g c = progress_of (seen c.turn_on.new.run) c.turn_on.ensures.kept.machine
