use Rattle.std.proofs.Common.{◌≡◌, vec_len}
use Rattle.storage.specs.Counts.{closed_all, AreUnsettled}
use Rattle.storage.proofs.changes.settle_all.Given as goal

abbrev pub invariant-loop-inverse : goal.invariant-loop-inverse
invariant-loop-inverse g l = record {
  cells : l.cells.cells ≡ l.fn.cells.cells;
  counts : closed_all l.inverses.items l.cells.unsettled ≡ closed_all l.fn.inverses.items l.fn.cells.unsettled;
  unsettled : AreUnsettled l.inverses.items l.cells.unsettled;
}

abbrev pub decreases-loop-inverse : goal.decreases-loop-inverse
decreases-loop-inverse g l = vec_len l.inverses
