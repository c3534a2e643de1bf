use Rattle.std.proofs.Common.{refl, ap, ◌∙◌, ◌-◌, arith}
use Rattle.interp_state.specs.declared.parts.Kind.{Kind}
use Rattle.interp_state.specs.declared.parts.Parts.{Parts}
use Rattle.interp_state.proofs.Jumping.{left_counted, left_depth, left_from, numbered_behind}
use Rattle.laws_reduction.specs.Meaning.{Block, Loop, Frame, deeper, frames}
use Rattle.interp_state.specs.Views.{view, open_of, scope_of, items_of, opens_of}
use Rattle.laws_reduction.specs.Leaving.{settles_view}
use Rattle.interp_state.specs.ViewLaws.{opens_push, behind_is}
use Rattle.interp_state.proofs.blocks.leave.Goals as goal

pub returns-in-Block-clause-settles : goal.returns-in-Block-clause-settles
returns-in-Block-clause-settles g c k b =
    settles_view k (view b c.args.parts.now) _ (open_of c.in-Some.field-0) Block (c.requires.ordered b) (ap items_of c.requires.at_end)
    (ap opens_of c.in-Some.ensures.items ∙ opens_push c.pop.new.self.items c.in-Some.field-0) (ap scope_of c.in-Block.is) refl refl refl refl

pub returns-in-Loop-clause-settles : goal.returns-in-Loop-clause-settles
returns-in-Loop-clause-settles g c k b =
    settles_view k (view b c.args.parts.now) _ (open_of c.in-Some.field-0) Loop (c.requires.ordered b) (ap items_of c.requires.at_end)
    (ap opens_of c.in-Some.ensures.items ∙ opens_push c.pop.new.self.items c.in-Some.field-0) (ap scope_of c.in-Loop.is) refl refl refl (behind_is c.in-Some.field-0.from.now _ c.behind-parts.ensures)

pub returns-in-Frame-clause-settles : goal.returns-in-Frame-clause-settles
returns-in-Frame-clause-settles g c k b =
    settles_view k (view b c.args.parts.now) _ (open_of c.in-Some.field-0) (Frame c.in-Frame.field-0 c.in-Frame.saved.items) (c.requires.ordered b) (ap items_of c.requires.at_end)
    (ap opens_of c.in-Some.ensures.items ∙ opens_push c.pop.new.self.items c.in-Some.field-0) (ap scope_of c.in-Frame.is) refl refl (ap (λ v. v.items) c.replace-left.ensures.after) refl

pub returns-in-Block-clause-counted : goal.returns-in-Block-clause-counted
returns-in-Block-clause-counted g c =
    let p = c.args.parts.now in
    let e = c.in-Some.field-0 in
    let q : Parts g.row.A.Denot = record { code = c.in-Some.field-0.from; entries = c.pop.new.self; depth = p.depth; stack = p.stack; locals = p.locals; instance = p.instance; spare = p.spare } in
    let same = left_depth p q e c.in-Some.ensures.items c.requires.counted ∙ ap (λ (k : Kind _). deeper (scope_of k) (frames (opens_of c.pop.new.self.items) 0)) c.in-Block.is in
    left_counted p q e c.in-Some.ensures.items c.requires.counted (left_from p q.entries.items e c.in-Some.ensures.items c.requires.counted) (omega (arith, same)) (omega arith)

pub returns-in-Loop-clause-counted : goal.returns-in-Loop-clause-counted
returns-in-Loop-clause-counted g c =
    let p = c.args.parts.now in
    let e = c.in-Some.field-0 in
    let q : Parts g.row.A.Denot = record { code = c.behind-parts.result; entries = c.pop.new.self; depth = p.depth; stack = p.stack; locals = p.locals; instance = p.instance; spare = p.spare } in
    let same = left_depth p q e c.in-Some.ensures.items c.requires.counted ∙ ap (λ (k : Kind _). deeper (scope_of k) (frames (opens_of c.pop.new.self.items) 0)) c.in-Loop.is in
    left_counted p q e c.in-Some.ensures.items c.requires.counted (numbered_behind e.from.now _ c.behind-parts.ensures (left_from p q.entries.items e c.in-Some.ensures.items c.requires.counted)) (omega (arith, same)) (omega arith)

pub returns-in-Frame-clause-counted : goal.returns-in-Frame-clause-counted
returns-in-Frame-clause-counted g c =
    let p = c.args.parts.now in
    let e = c.in-Some.field-0 in
    let q : Parts g.row.A.Denot = record { code = c.in-Some.field-0.from; entries = c.pop.new.self; depth = p.depth - 1; stack = p.stack; locals = c.replace-left.new.dest; instance = p.instance; spare = c.keep_room.new.spare } in
    let same = left_depth p q e c.in-Some.ensures.items c.requires.counted ∙ ap (λ (k : Kind _). deeper (scope_of k) (frames (opens_of c.pop.new.self.items) 0)) c.in-Frame.is in
    left_counted p q e c.in-Some.ensures.items c.requires.counted (left_from p q.entries.items e c.in-Some.ensures.items c.requires.counted) (omega (arith, same)) (omega arith)
