use Rattle.std.proofs.Common.{◌∙◌, ap, subst, sym}
use Rattle.spec_ledger.specs.Cells.{AreCells, AreOfTheirTypes}
use Rattle.storage.specs.Slots.{base_of}
use Rattle.storage.proofs.Merged.{one_sorted, one_map, one_kept, one_typed}
use Rattle.storage.proofs.Cells.from_sorted.Goals as goal

pub from_sorted-requires : goal.from_sorted-requires
from_sorted-requires g c = one_sorted c.in_ok-cells.cells.items c.args.over.items c.args.base.items c.in_ok-cells.ensures c.requires.over c.requires.base

pub of_base-requires-clause-cells : goal.of_base-requires-clause-cells
of_base-requires-clause-cells g c =
    subst (λ bs. AreCells (base_of bs)) (sym c.from_sorted.ensures)
    (one_kept c.in_ok-cells.cells.items c.args.over.items c.args.base.items c.in_ok-cells.ensures c.requires.over c.requires.base c.requires.held.0 c.requires.held.1)

pub of_base-requires-clause-types : goal.of_base-requires-clause-types
of_base-requires-clause-types g c =
    subst (λ bs. AreOfTheirTypes (base_of bs)) (sym c.from_sorted.ensures)
    (one_typed c.in_ok-cells.cells.items c.args.over.items c.args.base.items c.in_ok-cells.ensures c.requires.over c.requires.base c.requires.held.0 c.requires.held.1)

pub returns-clause-cells : goal.returns-clause-cells
returns-clause-cells g c =
    c.of_base.ensures.cells
    ∙ ap base_of c.from_sorted.ensures
    ∙ one_map c.in_ok-cells.cells.items c.args.over.items c.args.base.items c.in_ok-cells.ensures c.requires.over c.requires.base
