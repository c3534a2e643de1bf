use Rattle.std.proofs.Common.{subst, sym}
use Rattle.spec_ledger.specs.Cells.{AreCells, AreOfTheirTypes}
use Rattle.storage.specs.Slots.{base_of}
use Rattle.storage.proofs.Slots.{without_slots, few_alone, tops-none}
use Rattle.storage.proofs.Cells.of_base.Goals as goal

pub invariant_of-result : goal.invariant_of-result
invariant_of-result g c = record {
  are = subst AreCells (sym (without_slots (base_of c.args.base) c.new.result.entries c.new.ensures.empty)) c.requires.cells;
  types = subst AreOfTheirTypes (sym (without_slots (base_of c.args.base) c.new.result.entries c.new.ensures.empty)) c.requires.types;
  below = tops-none c.new.result.entries 0 c.new.ensures.empty;
  few = few_alone c.args.base c.new.result.entries c.new.ensures.empty c.len-count.ensures.fits;
}

pub returns-clause-cells : goal.returns-clause-cells
returns-clause-cells g c = without_slots (base_of c.args.base) c.new.result.entries c.new.ensures.empty

pub returns-clause-unsettled : goal.returns-clause-unsettled
returns-clause-unsettled g c = tops-none c.new.result.entries 0 c.new.ensures.empty
