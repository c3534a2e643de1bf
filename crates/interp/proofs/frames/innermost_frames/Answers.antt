use Rattle.std.proofs.Common.{sym, ◌∙◌, subst}
use Rattle.interp.specs.Progress.{GoesOn}
use Rattle.interp.proofs.Chaining.{running_frames, fallen_frames}
use Rattle.interp.proofs.frames.innermost_frames.Goals as goal

pub returns-in_ok-frames_of-in-Running : goal.returns-in_ok-frames_of-in-Running
returns-in_ok-frames_of-in-Running g c goes = c.in_ok-frames_of-in-Running.ensures ∙ sym (running_frames c.args.run.now c.in-Running.is)

pub returns-in-Fallen : goal.returns-in-Fallen
returns-in-Fallen g c goes = c.new.ensures.items ∙ fallen_frames c.args.run.now c.in-Fallen.field-0 c.in-Fallen.is

pub returns-in-Asking : goal.returns-in-Asking
returns-in-Asking g c goes = absurd (subst GoesOn c.in-Asking.is goes)

pub returns-in-Closing : goal.returns-in-Closing
returns-in-Closing g c goes = absurd (subst GoesOn c.in-Closing.is goes)

pub returns-in-Ended : goal.returns-in-Ended
returns-in-Ended g c goes = absurd (subst GoesOn c.in-Ended.is goes)

pub returns-in-NoMemory : goal.returns-in-NoMemory
returns-in-NoMemory g c goes = absurd (subst GoesOn c.in-NoMemory.is goes)
