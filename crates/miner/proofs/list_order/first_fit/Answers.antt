use Rattle.std.proofs.Common.{◌<◌, ◌≡◌, sym, ap, subst, ◌∙◌, arith, length}
use Rattle.std.proofs.lemmas.List.{length-map}
use Rattle.publish.specs.Publication.{AreLeft, limits}
use Rattle.miner.proofs.ListOrder.{joins, passes, all_in_order, limit_of}
use Rattle.miner.proofs.list_order.first_fit.Goals as goal
use Rattle.miner.proofs.list_order.first_fit.Goals.{then-limit-remaining+in_ok-push, else-limit-remaining+in_ok-push-2}

pub loop-number-preserved : goal.loop-number-preserved
loop-number-preserved g c =
    let calls = c.args.calls.now in
    let law = c.first_fit_is_admissible.ensures in
    let many = length-map calls (λ call. call.fuel) in
    let there : c.loop-number.number < length (limits calls) = omega (arith, c.loop-number-test.true, many) in
    let limit = limit_of calls c.loop-number.number _ c.loop-number-test.true c.index-calls-number.is ∙ sym c.fuel-limit.ensures in
    let next = c.if-limit-remaining in
    elim next.branch [
      | then-limit-remaining+in_ok-push w ↦ joins law.admissible law.grows (limits calls) c.args.fuel c.loop-number.number c.loop-number.remaining c.loop-number.order.items c.loop-number.left.items there c.loop-number.invariant
          c.fuel-limit.result next.remaining next.order.items next.left.items limit w.if-limit-remaining.true w.remaining-is (ap (λ v. v.items) w.order-is ∙ w.in_ok-push.ensures.items) (ap (λ v. v.items) w.left-is)
      | else-limit-remaining+in_ok-push-2 w ↦ passes law.admissible law.grows (limits calls) c.args.fuel c.loop-number.number c.loop-number.remaining c.loop-number.order.items c.loop-number.left.items there c.loop-number.invariant
          c.fuel-limit.result next.remaining next.order.items next.left.items limit w.if-limit-remaining.false w.remaining-is (ap (λ v. v.items) w.order-is) (ap (λ v. v.items) w.left-is ∙ w.in_ok-push-2.ensures.items)
    ]

pub returns-clause-order : goal.returns-clause-order
returns-clause-order g c =
    let calls = c.args.calls.now in
    let end : c.loop-number.number ≡ length (limits calls) = omega (arith, c.loop-number-test.false, c.loop-number.auto.number-end, length-map calls (λ call. call.fuel)) in
    all_in_order (limits calls) c.args.fuel c.loop-number.number c.loop-number.remaining c.loop-number.order.items c.loop-number.left.items end c.loop-number.invariant

pub returns-clause-left : goal.returns-clause-left
returns-clause-left g c =
    let calls = c.args.calls.now in
    let end : c.loop-number.number ≡ length calls = omega (arith, c.loop-number-test.false, c.loop-number.auto.number-end) in
    subst (λ n. AreLeft c.loop-number.order.items n c.loop-number.left.items) end c.loop-number.invariant.others
