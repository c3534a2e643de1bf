use Rattle.serial.proofs.MachineProgress.{asked_for, entered, left, has_ended, has_lacked}
use Rattle.serial.proofs.turn_loop.next_request.Goals as goal

pub returns-in-Host-clause-asks : goal.returns-in-Host-clause-asks
returns-in-Host-clause-asks g c = asked_for _ _ _ c.in-Host.ensures.turned c.turn_on.ensures.on_run

pub returns-in-Enter-clause-asks : goal.returns-in-Enter-clause-asks
returns-in-Enter-clause-asks g c = entered _ _ c.in-Enter.ensures.turned c.turn_on.ensures.on_run

pub returns-in-Leave-clause-asks : goal.returns-in-Leave-clause-asks
returns-in-Leave-clause-asks g c = left _ _ _ c.in-Leave.ensures.turned c.turn_on.ensures.on_run

pub returns-in-Done-clause-ended : goal.returns-in-Done-clause-ended
returns-in-Done-clause-ended g c e = has_ended _ _ _ c.in-Done.ensures.turned

pub returns-in-NoMemory-clause-no_memory : goal.returns-in-NoMemory-clause-no_memory
returns-in-NoMemory-clause-no_memory g c = has_lacked _ _ c.in-NoMemory.ensures.turned
