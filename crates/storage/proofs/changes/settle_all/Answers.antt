use Rattle.std.proofs.Common.{◌∙◌, ap, sym, subst}
use Rattle.storage.specs.Counts.{closed_all, AreUnsettled}
use Rattle.storage.proofs.Counted.{closed_all_popped, unsettled_popped}
use Rattle.storage.proofs.changes.settle_all.Goals as goal

pub settle-requires : goal.settle-requires
settle-requires g c = (unsettled_popped c.loop-inverse.inverses.items c.pop.new.self.items c.in-Some.inverse c.in-Some.ensures.items c.loop-inverse.cells.unsettled c.loop-inverse.invariant.unsettled).0

pub loop-inverse-preserved : goal.loop-inverse-preserved
loop-inverse-preserved g c = record {
  cells = c.settle.ensures.cells ∙ c.loop-inverse.invariant.cells;
  counts = ap (closed_all c.pop.new.self.items) c.settle.ensures.unsettled
      ∙ closed_all_popped c.loop-inverse.inverses.items c.pop.new.self.items c.in-Some.inverse c.in-Some.ensures.items c.loop-inverse.cells.unsettled ∙ c.loop-inverse.invariant.counts;
  unsettled = subst (AreUnsettled c.pop.new.self.items) (sym c.settle.ensures.unsettled)
      (unsettled_popped c.loop-inverse.inverses.items c.pop.new.self.items c.in-Some.inverse c.in-Some.ensures.items c.loop-inverse.cells.unsettled c.loop-inverse.invariant.unsettled).1;
}
