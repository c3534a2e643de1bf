use Rattle.std.proofs.Common.{take}
use Rattle.figures.specs.Counting.{IsNext}
use Rattle.figures.proofs.hottest.next_hottest.Given as goal

abbrev pub invariant-loop-s : goal.invariant-loop-s
invariant-loop-s l = IsNext (take l.s-index l.shared) l.last l.best
