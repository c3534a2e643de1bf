use Rattle.std.proofs.Common.{sym, subst}
use Rattle.spec_ledger.specs.Cells.{AreCells, AreOfTheirTypes}
use Rattle.storage.proofs.Slots.{fewer_yet}
use Rattle.storage.proofs.Cells.settle.Goals as goal

pub invariant_of-self : goal.invariant_of-self
invariant_of-self g c = record {
  are = subst AreCells (sym c.settle_slot.ensures.cells) c.self.invariant.are;
  types = subst AreOfTheirTypes (sym c.settle_slot.ensures.cells) c.self.invariant.types;
  below = c.settle_slot.ensures.below;
  few = fewer_yet _ _ _ c.settle_slot.ensures.few c.self.invariant.few;
}

pub invariant_of-self-in-Restore : goal.invariant_of-self-in-Restore
invariant_of-self-in-Restore g c = record {
  are = subst AreCells (sym c.settle_slot-in-Restore.ensures.cells) c.self.invariant.are;
  types = subst AreOfTheirTypes (sym c.settle_slot-in-Restore.ensures.cells) c.self.invariant.types;
  below = c.settle_slot-in-Restore.ensures.below;
  few = fewer_yet _ _ _ c.settle_slot-in-Restore.ensures.few c.self.invariant.few;
}
