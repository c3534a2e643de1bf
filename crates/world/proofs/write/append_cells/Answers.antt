use Rattle.std.proofs.Common.{sym, ◌∙◌}
use Rattle.storage.proofs.Listed.{split_next}
use Rattle.spec_block.specs.Bytes.{cell_bytes}
use Rattle.world.specs.Views.{is_cell_of}
use Rattle.world.proofs.CellCounts.{one_more}
use Rattle.world.proofs.write.append_cells.Goals as goal

pub loop-cell-preserved-in-Continue-1 : goal.loop-cell-preserved-in-Continue-1
loop-cell-preserved-in-Continue-1 g c = (
  tt,
  tt,
  split_next c.loop-cell.yielded c.in-Some.cell c.next.new.self _ _ c.in-Some.ensures.steps c.loop-cell.invariant.2,
  one_more cell_bytes (is_cell_of c.args.kind) c.args.out.now.items c.loop-cell.out.items c.append_cell.new.out.items c.loop-cell.yielded c.in-Some.cell (sym c.is_kind.ensures ∙ c.if-is_kind.true) c.loop-cell.invariant.3 c.in_ok-append_cell.ensures,
)
