use Rattle.std.proofs.Common.{inl, inr}
use Rattle.figures.proofs.Numbers.{greatest_more}
use Rattle.figures.proofs.figures.greatest_of.Goals as goal
use Rattle.figures.proofs.figures.greatest_of.Goals.{then-most-number, else-most-number}

pub loop-number-preserved : goal.loop-number-preserved
loop-number-preserved c =
    greatest_more c.args.numbers.now c.loop-number.number-index _ c.loop-number.most _ c.loop-number-test.true c.loop-number.invariant
    (elim c.if-most-number.branch [
      | then-most-number w ↦ inl (w.if-most-number.true, w.most-is)
      | else-most-number w ↦ inr (w.if-most-number.false, w.most-is)
    ])
