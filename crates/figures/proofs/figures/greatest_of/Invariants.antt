use Rattle.std.proofs.Common.{take}
use Rattle.figures.specs.Chains.{IsGreatest}
use Rattle.figures.proofs.figures.greatest_of.Given as goal

abbrev pub invariant-loop-number : goal.invariant-loop-number
invariant-loop-number l = IsGreatest (take l.number-index l.numbers) l.most
