use Rattle.std.proofs.Common.{ap}
use Rattle.storage.proofs.Cells.settle_everything.Goals as goal

pub invariant_of-self : goal.invariant_of-self
invariant_of-self g c = c.self.invariant

pub returns-clause-cells : goal.returns-clause-cells
returns-clause-cells g c = ap (λ s. s.cells) c.self.view_is

pub returns-clause-unsettled : goal.returns-clause-unsettled
returns-clause-unsettled g c = c.self.invariant.below
