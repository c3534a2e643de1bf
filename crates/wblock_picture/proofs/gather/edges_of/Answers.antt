use Rattle.std.proofs.Common.{rules, ◌≡◌, ℕ, true, false, Bool, List, subst, sym}
use Rattle.std.specs.List.{Contains}
use Rattle.wblock_picture.specs.Edges.{AddsEdges}
use Rattle.wblock_picture.proofs.Adding.{one_more, no_room}
use Rattle.wblock_picture.proofs.gather.edges_of.Goals as goal

pub returns-then-not-branch : goal.returns-then-not-branch
returns-then-not-branch c =
    let none : c.in_ok-add_edges.field-0 ≡ false = search rules in
    let added = subst (λ (b : Bool). AddsEdges c.loop-before.before c.deref.result.now c.args.positions b c.loop-before.list.items c.add_edges.new.list.items) none c.in_ok-add_edges.ensures in
    no_room c.args.graph.now.profiles c.loop-before.before c.args.positions c.deref.result.now c.loop-before.list.items c.add_edges.new.list.items c.loop-before.invariant added (λ j h. (c.in_ok-successors.ensures.exact j).0 (subst (λ (l : List ℕ). Contains l j) c.deref.ensures.value h)) c.loop-before-test.true

pub loop-before-preserved : goal.loop-before-preserved
loop-before-preserved c =
    let room : c.in_ok-add_edges.field-0 ≡ true = search rules in
    let added = subst (λ (b : Bool). AddsEdges c.loop-before.before c.deref.result.now c.args.positions b c.loop-before.list.items c.add_edges.new.list.items) room c.in_ok-add_edges.ensures in
    one_more c.args.graph.now.profiles c.loop-before.before c.args.positions c.deref.result.now c.loop-before.list.items c.add_edges.new.list.items c.loop-before.invariant added (λ j h. (c.in_ok-successors.ensures.exact j).0 (subst (λ (l : List ℕ). Contains l j) c.deref.ensures.value h)) (λ j edge. subst (λ (l : List ℕ). Contains l j) (sym c.deref.ensures.value) ((c.in_ok-successors.ensures.exact j).1 edge)) c.loop-before-test.true
