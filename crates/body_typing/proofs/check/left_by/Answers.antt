use Rattle.std.proofs.Common.{◌≡◌, ◌<◌, ◌∙◌, length, get_or, arith, rules}
use Rattle.body_typing.proofs.Blocks.{left_refused, left_goes_on}
use Rattle.body_typing.proofs.check.left_by.Goals as goal

pub returns-in-Err-clause-gives : goal.returns-in-Err-clause-gives
returns-in-Err-clause-gives g c =
    let body = c.args.instrs.now in
    let x = c.i-item.result in
    let i = c.loop-i.i-index in
    let lt : i < length body = omega arith in
    let is : x ≡ get_or body i x = search rules in
    left_refused (Unit {0}) _ (λ left. left) c.in-Err.refusal c.args.scope.now c.args.labels.now.items c.loop-i.labels.items body x i c.loop-i.ops c.check_instr.new.ops lt is
    c.loop-i.invariant.0 c.loop-i.invariant.1 c.in-Err.ensures.meets

pub loop-i-preserved : goal.loop-i-preserved
loop-i-preserved g c =
    let body = c.args.instrs.now in
    let x = c.i-item.result in
    let i = c.loop-i.i-index in
    let lt : i < length body = omega arith in
    let is : x ≡ get_or body i x = search rules in (
      c.in-Ok.ensures.labels ∙ c.loop-i.invariant.0,
      left_goes_on c.args.scope.now c.args.labels.now.items c.loop-i.labels.items body x i c.loop-i.ops c.check_instr.new.ops lt is c.loop-i.invariant.0 c.loop-i.invariant.1 c.in-Ok.ensures.meets,
    )
