use Rattle.std.proofs.Common.{subst}
use Rattle.std.specs.BTreeMap.{get}
use Rattle.std.proofs.lemmas.List.{take_all}
use Rattle.spec_ledger.specs.declared.Entry.{Entry}
use Rattle.std.proofs.Common.{List}
use Rattle.lock_profile.specs.LockTurns.{turn_cmp}
use Rattle.figures.specs.Turns.{AreRaised, IsRaisedAt}
use Rattle.figures.proofs.Steps.{raised_more}
use Rattle.figures.proofs.sums.raise.Goals as goal

pub loop-entry-preserved : goal.loop-entry-preserved
loop-entry-preserved c =
    raised_more c.args.entries.now c.loop-entry.entry-index _ c.args.sum (get turn_cmp c.args.sums.now) (get turn_cmp c.loop-entry.sums) (get turn_cmp c.raise_at.new.sums) c.loop-entry-test.true c.loop-entry.invariant
    (subst (λ q. IsRaisedAt q c.args.sum (get turn_cmp c.loop-entry.sums) (get turn_cmp c.raise_at.new.sums)) c.own_turn.ensures c.in_ok-raise_at.ensures)

pub returns : goal.returns
returns c = subst (λ (xs : List Entry). AreRaised xs c.args.sum (get turn_cmp c.args.sums.now) (get turn_cmp c.loop-entry.sums)) (take_all c.loop-entry.entry-index c.args.entries.now c.loop-entry-test.false) c.loop-entry.invariant
