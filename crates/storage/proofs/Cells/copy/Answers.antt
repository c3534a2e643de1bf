use Rattle.std.proofs.Common.{◌∙◌, subst, sym}
use Rattle.std.specs.Prelude.{T}
use Rattle.std.specs.FinMap.{entries_sorted, is_sorted}
use Rattle.spec_ledger.specs.Cells.{lock_cmp, AreCells, AreOfTheirTypes}
use Rattle.storage.proofs.Slots.{cells_of_entries}
use Rattle.storage.proofs.Cells.copy.Goals as goal

pub from_sorted-requires : goal.from_sorted-requires
from_sorted-requires g c = subst (λ cells. T (is_sorted lock_cmp cells)) (sym c.in_ok-cells.ensures) (entries_sorted c.args.self.now.cells)

pub of_base-requires-clause-cells : goal.of_base-requires-clause-cells
of_base-requires-clause-cells g c = subst AreCells (sym (cells_of_entries c.args.self.now.cells c.from_sorted.result (c.from_sorted.ensures ∙ c.in_ok-cells.ensures))) c.use_invariant.ensures.cells

pub of_base-requires-clause-types : goal.of_base-requires-clause-types
of_base-requires-clause-types g c = subst AreOfTheirTypes (sym (cells_of_entries c.args.self.now.cells c.from_sorted.result (c.from_sorted.ensures ∙ c.in_ok-cells.ensures))) c.use_invariant.ensures.types

pub returns-clause-cells : goal.returns-clause-cells
returns-clause-cells g c = c.of_base.ensures.cells ∙ cells_of_entries c.args.self.now.cells c.from_sorted.result (c.from_sorted.ensures ∙ c.in_ok-cells.ensures)
