use Rattle.std.proofs.Common.{sym, subst}
use Rattle.spec_ledger.specs.Cells.{IsCounter}
use Rattle.serial.proofs.Places.{counter_there}
use Rattle.serial.proofs.over_view.CellsReads.read.Goals as goal

pub returns-clause-cell : goal.returns-clause-cell
returns-clause-cell g c = λ kind. subst IsCounter (sym c.get.ensures) (counter_there c.args.self.now.cells c.args.lock c.use_invariant.ensures.cells kind)
