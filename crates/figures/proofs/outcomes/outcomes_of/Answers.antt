use Rattle.std.proofs.Common.{◌<◌, inl, inr, List, length, ap, subst, sym, ◌∙◌}
use Rattle.figures.specs.declared.outcomes.OutcomeKind.TheVariants.{Returned}
use Rattle.figures.specs.declared.outcomes.OutcomeKind.{OutcomeKind}
use Rattle.figures.specs.Outcomes.{counts_among}
use Rattle.figures.proofs.KindSteps.{kinds_more}
use Rattle.figures.proofs.outcomes.outcomes_of.Goals as goal
use Rattle.figures.proofs.outcomes.outcomes_of.Goals.{then-count-ne0+in_ok-push, else-count-ne0}

pub loop-kind-preserved : goal.loop-kind-preserved
loop-kind-preserved c =
    kinds_more c.kinds.result c.loop-kind.kind-index Returned c.args.positions.now c.loop-kind.counts.items c.if-count-ne0.counts.items (counts_among c.kinds.result c.args.positions.now) c.count_of-count.result
    (subst (λ (ks : List OutcomeKind). c.loop-kind.kind-index < length ks) (sym c.kinds.ensures) c.loop-kind-test.true) c.count_of-count.ensures c.loop-kind.invariant (elim c.if-count-ne0.branch [
      | then-count-ne0+in_ok-push w ↦ inl (w.if-count-ne0.true, ap (λ v. v.items) w.counts-is ∙ w.in_ok-push.ensures.items)
      | else-count-ne0 w ↦ inr (w.if-count-ne0.false, ap (λ v. v.items) w.counts-is)
    ])
