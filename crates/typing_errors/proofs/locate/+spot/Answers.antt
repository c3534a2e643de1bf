use Rattle.std.proofs.Common.{◌≡◌, ◌+◌, ◌<◌, ◌∙◌, length, get_or, ap, arith, rules}
use Rattle.module_tree.specs.View.{instr_view, instrs_view}
use Rattle.typing_errors.proofs.Deeper.{under_one, view_If, in_else}
use Rattle.typing_errors.proofs.locate.+spot.Goals as goal

pub spot_at-returns-in-Ok-None-clause-within : goal.spot_at-returns-in-Ok-None-clause-within
spot_at-returns-in-Ok-None-clause-within g t c =
    let w = c.in-If in
    let is = ap instr_view w.is ∙ view_If w.field-0 w.block w.then_body w.else_body in
    in_else c.spot_under-in-Ok-None.result (λ spot. instrs_view spot.sequence.now.items) _ _ _ w.block (instrs_view w.then_body.items) (instrs_view w.else_body.items) (instr_view c.args.instr.now)
    is (c.in-Ok-None.ensures.kept c.in-Ok-None.field-0-is) c.spot_under-in-Ok-None.ensures.within

pub spot_in-returns-in-Ok-Some-clause-within : goal.spot_in-returns-in-Ok-Some-clause-within
spot_in-returns-in-Ok-Some-clause-within g t c =
    let body = c.args.body.now.items in
    let x = c.i-item.result in
    let i = c.loop-i.i-index in
    let lt : i < length body = omega arith in
    let is : x ≡ get_or body i x = search rules in
    under_one body x i c.loop-i.labels.items c.args.labels.now.items _ c.in-Ok-Some.field-0 c.in-Ok-Some.spot (λ spot. instrs_view spot.sequence.now.items) lt is c.loop-i.invariant.1
    c.in-Ok-Some.field-0-is c.in-Ok-Some.ensures.within

pub spot_in-loop-i-preserved : goal.spot_in-loop-i-preserved
spot_in-loop-i-preserved g t c = (ap (λ n. n + 1) c.loop-i.invariant.0, c.in-Ok-None.ensures.kept c.in-Ok-None.field-0-is ∙ c.loop-i.invariant.1)
