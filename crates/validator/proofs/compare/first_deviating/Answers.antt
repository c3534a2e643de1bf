use Rattle.std.proofs.Common.{length, refl, arith}
use Rattle.std.proofs.lemmas.Option.{slice_get_read, slice_get-get_or}
use Rattle.validator.proofs.Agreeing.{least_other, none_more, none_other}
use Rattle.serial.specs.Positions.{results_of}
use Rattle.validator.proofs.compare.first_deviating.Goals as goal

pub returns-then-not-agrees-clause-other : goal.returns-then-not-agrees-clause-other
returns-then-not-agrees-clause-other g c =
    let positions = c.args.positions.now in
    let receipts = c.args.receipts.now in
    let touched = c.args.touched.now in
    let at = c.loop-at.at in
    let sizes = c.requires in
    least_other positions receipts touched at c.index-positions-at.result _ c.index-touched-at.result
    (slice_get_read positions (length positions) at c.index-positions-at.result refl c.loop-at-test.true c.index-positions-at.is)
    (slice_get-get_or receipts at _ (omega (arith, c.loop-at-test.true, sizes.receipts)))
    (slice_get_read touched (length touched) at c.index-touched-at.result refl (omega (arith, c.loop-at-test.true, sizes.touched)) c.index-touched-at.is)
    c.loop-at.invariant
    (λ agrees. absurd (let yes = c.agrees.ensures.1 agrees in let no = c.if-not-agrees.true in cc (yes, no)))

pub loop-at-preserved : goal.loop-at-preserved
loop-at-preserved g c =
    let positions = c.args.positions.now in
    let receipts = c.args.receipts.now in
    let touched = c.args.touched.now in
    let at = c.loop-at.at in
    let sizes = c.requires in
    none_more positions receipts touched at c.index-positions-at.result _ c.index-touched-at.result
    (slice_get_read positions (length positions) at c.index-positions-at.result refl c.loop-at-test.true c.index-positions-at.is)
    (slice_get-get_or receipts at _ (omega (arith, c.loop-at-test.true, sizes.receipts)))
    (slice_get_read touched (length touched) at c.index-touched-at.result refl (omega (arith, c.loop-at-test.true, sizes.touched)) c.index-touched-at.is)
    c.loop-at.invariant
    (c.agrees.ensures.0 c.if-not-agrees.false)

pub returns-clause-same : goal.returns-clause-same
returns-clause-same g c = none_other c.args.positions.now (results_of c.args.receipts.now c.args.touched.now) c.loop-at.at c.loop-at-test.false c.loop-at.invariant
