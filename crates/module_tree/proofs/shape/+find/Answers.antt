use Rattle.std.proofs.Common.{◌≡◌, ◌<◌, length, get_or, arith, rules, ap, ◌∙◌}
use Rattle.std.proofs.lemmas.Result.{MatchResult-weaker}
use Rattle.module_tree.specs.View.{instr_view}
use Rattle.module_tree.specs.Numbering.{ordinals_If}
use Rattle.module_tree.specs.View.{instr_ordinals}
use Rattle.module_tree.proofs.Walks.{view_If, find_here, find_on, in_then, in_else, past_if, carried_here, carried_on, carried_then, carried_else, carried_past}
use Rattle.module_tree.proofs.shape.+find.Goals as goal

pub find_at-returns-in-Ok-clause-view : goal.find_at-returns-in-Ok-clause-view
find_at-returns-in-Ok-clause-view g t c =
    let w = c.in-If in
    let is = ap instr_view w.is ∙ view_If w.field-0 w.field-1 w.then_body w.else_body in
    rw is (in_then w.field-1 _ _ _ _ c.if-ordinal-eq0.false c.in-Ok.ensures.view)

pub find_at-returns-in-Ok-clause-carried : goal.find_at-returns-in-Ok-clause-carried
find_at-returns-in-Ok-clause-carried g t c =
    let w = c.in-If in
    let is = ap instr_ordinals w.is ∙ ordinals_If w.field-0 w.field-1 w.then_body w.else_body in
    rw is (carried_then w.field-0 _ _ _ _ c.if-ordinal-eq0.false c.in-Ok.ensures.carried)

pub find_at-returns-in-Err-clause-view : goal.find_at-returns-in-Err-clause-view
find_at-returns-in-Err-clause-view g t c =
    let w = c.in-If in
    let is = ap instr_view w.is ∙ view_If w.field-0 w.field-1 w.then_body w.else_body in
    let skip = c.in-Err.ensures.view in
    rw is (MatchResult-weaker c.find_in-in-Err.result c.find_in-in-Err.ensures.view
    (λ i h. in_else w.field-1 _ _ _ _ _ c.if-ordinal-eq0.false skip h)
    (λ left h. past_if w.field-1 _ _ _ _ _ c.if-ordinal-eq0.false skip h))

pub find_at-returns-in-Err-clause-carried : goal.find_at-returns-in-Err-clause-carried
find_at-returns-in-Err-clause-carried g t c =
    let w = c.in-If in
    let is = ap instr_ordinals w.is ∙ ordinals_If w.field-0 w.field-1 w.then_body w.else_body in
    let skip = c.in-Err.ensures.carried in
    rw is (MatchResult-weaker c.find_in-in-Err.result c.find_in-in-Err.ensures.carried
    (λ i h. carried_else w.field-0 _ _ _ _ _ c.if-ordinal-eq0.false skip h)
    (λ left h. carried_past w.field-0 _ _ _ _ _ c.if-ordinal-eq0.false skip h))

pub find_in-returns-in-Ok-clause-view : goal.find_in-returns-in-Ok-clause-view
find_in-returns-in-Ok-clause-view g t c =
    let body = c.args.body.now.items in
    let x = c.i-item.result in
    let i = c.loop-i.i-index in
    let lt : i < length body = omega arith in
    let is : x ≡ get_or body i x = search rules in
    find_here body x i lt is c.loop-i.left c.args.ordinal _ c.loop-i.invariant.0 c.in-Ok.ensures.view

pub find_in-returns-in-Ok-clause-carried : goal.find_in-returns-in-Ok-clause-carried
find_in-returns-in-Ok-clause-carried g t c =
    let body = c.args.body.now.items in
    let x = c.i-item.result in
    let i = c.loop-i.i-index in
    let lt : i < length body = omega arith in
    let is : x ≡ get_or body i x = search rules in
    carried_here body x i lt is c.loop-i.left c.args.ordinal _ c.loop-i.invariant.1 c.in-Ok.ensures.carried

pub find_in-loop-i-preserved : goal.find_in-loop-i-preserved
find_in-loop-i-preserved g t c =
    let body = c.args.body.now.items in
    let x = c.i-item.result in
    let i = c.loop-i.i-index in
    let lt : i < length body = omega arith in
    let is : x ≡ get_or body i x = search rules in (
      find_on body x i lt is c.loop-i.left c.in-Err.behind c.args.ordinal c.loop-i.invariant.0 c.in-Err.ensures.view,
      carried_on body x i lt is c.loop-i.left c.in-Err.behind c.args.ordinal c.loop-i.invariant.1 c.in-Err.ensures.carried,
    )
