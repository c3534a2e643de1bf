use Rattle.std.proofs.Common.{◌∙◌, ap, subst, sym}
use Rattle.spec_ledger.specs.Cells.{AreCells, AreOfTheirTypes}
use Rattle.storage.specs.Slots.{base_of, cells_in}
use Rattle.storage.proofs.Slots.{same_store, on_any_err, AreCells-inserted}
use Rattle.storage.proofs.Cells.insert.Goals as goal

pub invariant_of-self : goal.invariant_of-self
invariant_of-self g c = record {
  are = subst AreCells (sym c.in_err-fill_slot.ensures.cells_at_err) c.self.invariant.are;
  types = subst AreOfTheirTypes (sym c.in_err-fill_slot.ensures.cells_at_err) c.self.invariant.types;
  below = c.in_err-fill_slot.ensures.counts_at_err c.self.inside.top ∙ c.self.invariant.below;
  few = c.in_err-fill_slot.ensures.few c.self.invariant.few;
}

pub invariant_of-self-2 : goal.invariant_of-self-2
invariant_of-self-2 g c = record {
  are = AreCells-inserted (cells_in (base_of c.self.inside.base) c.self.inside.slots.entries) (cells_in (base_of c.self.inside.base) c.fill_slot.new.slots.entries) c.args.lock c.args.value c.in_ok-fill_slot.ensures.cells c.requires c.ranges.value.fits c.self.invariant.are;
  types = c.in_ok-fill_slot.ensures.types c.self.invariant.types;
  below = c.in_ok-fill_slot.ensures.counts c.self.inside.top ∙ c.self.invariant.below;
  few = c.in_ok-fill_slot.ensures.few c.self.invariant.few;
}

pub returns-clause-unsettled : goal.returns-clause-unsettled
returns-clause-unsettled g c = c.in_ok-fill_slot.ensures.counts c.self.inside.floor ∙ ap (λ s. s.unsettled) c.self.view_is

pub returns-in_err-fill_slot-clause-err : goal.returns-in_err-fill_slot-clause-err
returns-in_err-fill_slot-clause-err g c = on_any_err c.from_residual.result (same_store _ _ _ _ c.in_err-fill_slot.ensures.cells_at_err (c.in_err-fill_slot.ensures.counts_at_err c.self.inside.floor) ∙ c.self.view_is)
