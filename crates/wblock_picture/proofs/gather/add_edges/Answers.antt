use Rattle.std.proofs.Common.{rules, ◌≡◌, ◌≤◌, true, false, List, length, subst, sym}
use Rattle.wblock_picture.specs.declared.edge.Edge.{Edge}
use Rattle.wblock_picture.specs.declared.scene.TheConstants.{MOST_LINES}
use Rattle.wblock_picture.specs.Edges.{AddsEdges}
use Rattle.wblock_picture.proofs.Adding.{one_after, stopped}
use Rattle.wblock_picture.proofs.gather.add_edges.Goals as goal

pub returns-then-not-branch : goal.returns-then-not-branch
returns-then-not-branch c =
    let none : c.in_ok-add_edge.field-0 ≡ false = search rules in
    let same = c.in_ok-add_edge.ensures.full none in
    subst (λ (l : List Edge). AddsEdges c.args.before c.args.successors.now c.args.positions false c.args.list.now.items l) (sym same.0)
    (stopped c.args.before c.args.positions c.loop-after.after-index c.args.successors.now c.args.list.now.items c.loop-after.list.items c.loop-after.invariant (subst (λ (l : List Edge). MOST_LINES ≤ length l) same.0 same.1))

pub loop-after-preserved : goal.loop-after-preserved
loop-after-preserved c =
    let room : c.in_ok-add_edge.field-0 ≡ true = search rules in
    one_after c.args.before c.args.positions c.loop-after.after-index c.args.successors.now c.args.list.now.items c.loop-after.list.items c.add_edge.new.list.items c.loop-after-test.true c.loop-after.invariant (c.in_ok-add_edge.ensures.added room) c.in_ok-add_edge.ensures.few
