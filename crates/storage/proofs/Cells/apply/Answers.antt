use Rattle.std.proofs.Common.{subst, sym}
use Rattle.spec_ledger.specs.Cells.{AreCells, AreOfTheirTypes}
use Rattle.spec_ledger.proofs.Ops.{AreCells-after}
use Rattle.storage.specs.Slots.{base_of, cells_in, counts_in}
use Rattle.storage.proofs.Slots.{read_cells, applied, opened_by, IsUnsettled-by, IsUnsettled-read}
use Rattle.storage.proofs.Cells.apply.Goals as goal

pub returns-then-reads-clause-cells : goal.returns-then-reads-clause-cells
returns-then-reads-clause-cells g c = read_cells c.args.op c.args.self.now.cells c.reads.result c.reads.ensures c.if-reads.true

pub open_slot-requires : goal.open_slot-requires
open_slot-requires g c = c.self.invariant.below

pub invariant_of-self : goal.invariant_of-self
invariant_of-self g c = record {
  are = subst AreCells (sym c.in_err-cell.ensures.cells_at_err) c.self.invariant.are;
  types = subst AreOfTheirTypes (sym c.in_err-cell.ensures.cells_at_err) c.self.invariant.types;
  below = c.in_err-cell.ensures.below_at_err;
  few = c.in_err-cell.ensures.few c.self.invariant.few;
}

pub invariant_of-self-2 : goal.invariant_of-self-2
invariant_of-self-2 g c =
    record {
      below = c.in_ok-cell.ensures.below;
      few = c.in_ok-cell.ensures.few c.self.invariant.few;
      types = c.in_ok-cell.ensures.types c.self.invariant.types;
      are =
          subst (λ m. AreCells m)
          (sym (applied c.args.op (cells_in (base_of c.self.inside.base) c.self.inside.slots.entries) (cells_in (base_of c.self.inside.base) c.open_slot.new.slots.entries) c.lock-lock.result c.in_ok-cell.ensures.cells c.lock-lock.ensures))
          (AreCells-after c.args.op (cells_in (base_of c.self.inside.base) c.self.inside.slots.entries) c.self.invariant.are);
    }

pub returns-clause-unsettled : goal.returns-clause-unsettled
returns-clause-unsettled g c =
    rw (← c.self.view_is) (opened_by c.args.op c.in_ok-cell.cell c.inverse-inverse.result c.reads.result (counts_in c.self.inside.floor c.self.inside.slots.entries) (counts_in c.self.inside.floor c.open_slot.new.slots.entries) c.lock-lock.result
    c.in_ok-cell.ensures.counts c.lock-lock.ensures c.inverse-inverse.ensures c.reads.ensures c.if-reads.false)

pub returns-then-reads-clause-kept : goal.returns-then-reads-clause-kept
returns-then-reads-clause-kept g c = IsUnsettled-read c.args.op _ _ c.reads.result c.args.self.now.unsettled c.inverse.ensures c.reads.ensures c.if-reads.true

pub returns-clause-kept : goal.returns-clause-kept
returns-clause-kept g c =
    IsUnsettled-by c.inverse-inverse.result (counts_in c.self.inside.floor c.self.inside.slots.entries) (counts_in c.self.inside.floor c.open_slot.new.slots.entries)
    (opened_by c.args.op c.in_ok-cell.cell c.inverse-inverse.result c.reads.result (counts_in c.self.inside.floor c.self.inside.slots.entries) (counts_in c.self.inside.floor c.open_slot.new.slots.entries) c.lock-lock.result
    c.in_ok-cell.ensures.counts c.lock-lock.ensures c.inverse-inverse.ensures c.reads.ensures c.if-reads.false)
