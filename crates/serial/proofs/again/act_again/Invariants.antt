use Rattle.std.proofs.Common.{take}
use Rattle.serial.specs.Playing.{AreDoneInLevels}
use Rattle.serial.proofs.again.act_again.Given as goal

abbrev pub invariant-loop-step : goal.invariant-loop-step
invariant-loop-step g l = AreDoneInLevels l.fn.cells (take l.step-index l.trace) l.cells l.inverses.items l.marks.items
