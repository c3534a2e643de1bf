use Rattle.link.proofs.Filling.{IsFilled}
use Rattle.link.proofs.table.Table.of_elements.Given as goal

abbrev pub invariant-loop-place : goal.invariant-loop-place
invariant-loop-place g l = IsFilled l.elements l.place l.filled.items
