use Rattle.interp.specs.Run.{seen}
use Rattle.interp.proofs.Progress.{progress_of}
use Rattle.interp.proofs.machine.Machine.next.Goals as goal

pub returns-clause-on_run : goal.returns-clause-on_run
returns-clause-on_run g c = progress_of (seen c.next_turn.new.run) c.next_turn.ensures.kept.machine
