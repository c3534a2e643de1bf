use Rattle.std.proofs.Common.{◌∙◌, ap, sym, subst}
use Rattle.spec_ledger.specs.Book.{back_all}
use Rattle.storage.specs.Counts.{closed_all, AreUnsettled}
use Rattle.storage.proofs.Counted.{back_all_popped, closed_all_popped, unsettled_popped}
use Rattle.storage.proofs.changes.take_all_back.Goals as goal

pub take_back-requires : goal.take_back-requires
take_back-requires g c = (unsettled_popped c.loop-inverse.inverses.items c.pop.new.self.items c.in-Some.inverse c.in-Some.ensures.items c.loop-inverse.cells.unsettled c.loop-inverse.invariant.unsettled).0

pub loop-inverse-preserved : goal.loop-inverse-preserved
loop-inverse-preserved g c = record {
  cells = ap (back_all c.pop.new.self.items) c.take_back.ensures.cells
      ∙ back_all_popped c.loop-inverse.inverses.items c.pop.new.self.items c.in-Some.inverse c.in-Some.ensures.items c.loop-inverse.cells.cells ∙ c.loop-inverse.invariant.cells;
  counts = ap (closed_all c.pop.new.self.items) c.take_back.ensures.unsettled
      ∙ closed_all_popped c.loop-inverse.inverses.items c.pop.new.self.items c.in-Some.inverse c.in-Some.ensures.items c.loop-inverse.cells.unsettled ∙ c.loop-inverse.invariant.counts;
  unsettled = subst (AreUnsettled c.pop.new.self.items) (sym c.take_back.ensures.unsettled)
      (unsettled_popped c.loop-inverse.inverses.items c.pop.new.self.items c.in-Some.inverse c.in-Some.ensures.items c.loop-inverse.cells.unsettled c.loop-inverse.invariant.unsettled).1;
}
