use Rattle.std.proofs.Common.{true, take}
use Rattle.wblock_picture.specs.Edges.{AddsEdges}
use Rattle.wblock_picture.proofs.gather.add_edges.Given as goal

abbrev pub invariant-loop-after : goal.invariant-loop-after
invariant-loop-after l = AddsEdges l.before (take l.after-index l.successors) l.positions true l.fn.list.items l.list.items
