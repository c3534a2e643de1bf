use Rattle.spec_ledger.proofs.Ops.{AreCells-empty, AreCells-after, AreCells-back}
use Rattle.spec_ledger.proofs.laws.cells_stay_cells.Goals as goal

pub returns : goal.returns
returns c = record { none = AreCells-empty; done = AreCells-after; back = AreCells-back }
