use Rattle.std.proofs.Common.{◌≡◌, ◌<◌, ◌∙◌, length, get_or, arith, rules, refl}
use Rattle.body_typing.specs.CheckResults.{context_at}
use Rattle.body_typing.proofs.Blocks.{at_if_else, all_refused, all_goes_on}
use Rattle.body_typing.proofs.check.+check.Goals as goal

pub check_instr-returns-then-lacks_else-clause-meets : goal.check_instr-returns-then-lacks_else-clause-meets
check_instr-returns-then-lacks_else-clause-meets g t c =
    let w = c.in-If in
    let e = at_if_else (context_at c.args.scope.now c.args.labels.now.items) c.args.instr.now w.field-0 w.block w.then_body w.else_body c.args.ops.now w.is (c.if-lacks_else.ensures refl) in
    rw c.refused-then-lacks_else.ensures e

pub check_all-returns-in-Err-clause-gives : goal.check_all-returns-in-Err-clause-gives
check_all-returns-in-Err-clause-gives g t c =
    let body = c.args.body.now.items in
    let x = c.i-item.result in
    let i = c.loop-i.i-index in
    let lt : i < length body = omega arith in
    let is : x ≡ get_or body i x = search rules in
    all_refused (Unit {0}) _ (λ left. left) c.in-Err.refusal c.args.scope.now c.args.labels.now.items c.loop-i.labels.items c.args.label body x i c.loop-i.ops c.check_instr.new.ops lt is
    c.loop-i.invariant.0 c.loop-i.invariant.1 c.in-Err.ensures.meets

pub check_all-loop-i-preserved : goal.check_all-loop-i-preserved
check_all-loop-i-preserved g t c =
    let body = c.args.body.now.items in
    let x = c.i-item.result in
    let i = c.loop-i.i-index in
    let lt : i < length body = omega arith in
    let is : x ≡ get_or body i x = search rules in (
      c.in-Ok.ensures.labels ∙ c.loop-i.invariant.0,
      all_goes_on c.args.scope.now c.args.labels.now.items c.loop-i.labels.items c.args.label body x i c.loop-i.ops c.check_instr.new.ops lt is
          c.loop-i.invariant.0 c.loop-i.invariant.1 c.in-Ok.ensures.meets,
    )
