use Rattle.std.proofs.Common.{◌∙◌, ap, subst, sym}
use Rattle.spec_ledger.specs.Cells.{AreCells, AreOfTheirTypes}
use Rattle.spec_ledger.proofs.Ops.{AreCells-empty}
use Rattle.spec_ledger.proofs.Types.{types-empty}
use Rattle.storage.specs.Slots.{base_of}
use Rattle.storage.proofs.Slots.{no_cells}
use Rattle.storage.proofs.Cells.new.Goals as goal

pub of_base-requires-clause-cells : goal.of_base-requires-clause-cells
of_base-requires-clause-cells g c = subst AreCells (sym (ap base_of c.empty.ensures ∙ no_cells)) AreCells-empty

pub of_base-requires-clause-types : goal.of_base-requires-clause-types
of_base-requires-clause-types g c = subst AreOfTheirTypes (sym (ap base_of c.empty.ensures ∙ no_cells)) types-empty

pub returns-clause-cells : goal.returns-clause-cells
returns-clause-cells g c = c.of_base.ensures.cells ∙ ap base_of c.empty.ensures ∙ no_cells
