use Rattle.std.proofs.Common.{sym, refl, subst}
use Rattle.std.specs.BTreeMap.{get}
use Rattle.std.proofs.lemmas.List.{take_all}
use Rattle.lock_profile.specs.LockTurns.{turn_cmp}
use Rattle.figures.specs.Turns.{IsPast}
use Rattle.figures.proofs.Steps.{past_here, past_later}
use Rattle.figures.proofs.sums.goes_back.Goals as goal

pub returns-then-is_past : goal.returns-then-is_past
returns-then-is_past c = (
  λ _. past_here (get turn_cmp c.args.sums.now) c.args.entries.now c.loop-entry.entry-index _ c.is_past.result c.loop-entry-test.true c.if-is_past.true c.is_past.ensures,
  λ _. refl,
)

pub loop-entry-preserved : goal.loop-entry-preserved
loop-entry-preserved c = past_later (get turn_cmp c.args.sums.now) c.args.entries.now c.loop-entry.entry-index _ c.is_past.result c.loop-entry-test.true c.loop-entry.invariant c.if-is_past.false c.is_past.ensures

pub returns : goal.returns
returns c = (
  λ no. absurd (cc no),
  λ past. absurd (c.loop-entry.invariant (subst (IsPast (get turn_cmp c.args.sums.now)) (sym (take_all c.loop-entry.entry-index c.args.entries.now c.loop-entry-test.false)) past)),
)
