use Rattle.std.proofs.Common.{inl, inr, subst}
use Rattle.std.specs.BTreeMap.{get}
use Rattle.lock_profile.specs.LockTurns.{turn_cmp}
use Rattle.figures.specs.Turns.{IsBefore}
use Rattle.figures.proofs.Steps.{best_more}
use Rattle.figures.proofs.sums.best_before.Goals as goal
use Rattle.figures.proofs.sums.best_before.Goals.{then-best-sum, else-best-sum}

pub loop-entry-preserved : goal.loop-entry-preserved
loop-entry-preserved c =
    best_more (get turn_cmp c.args.sums.now) c.args.entries.now c.loop-entry.entry-index _ c.loop-entry.best c.sum_before-sum.result _ c.loop-entry-test.true c.loop-entry.invariant
    (subst (λ q. IsBefore (get turn_cmp c.args.sums.now) q c.sum_before-sum.result) c.own_turn.ensures c.sum_before-sum.ensures)
    (elim c.if-best-sum.branch [
      | then-best-sum w ↦ inl (w.if-best-sum.true, w.best-is)
      | else-best-sum w ↦ inr (w.if-best-sum.false, w.best-is)
    ])
