use Rattle.std.proofs.Common.{sym}
use Rattle.std.specs.BTreeMap.{get}
use Rattle.lock_profile.specs.LockTurns.{turn_cmp}
use Rattle.figures.proofs.Steps.{before_none, before_some}
use Rattle.figures.proofs.sums.sum_before.Goals as goal

pub returns-in-None : goal.returns-in-None
returns-in-None c = before_none (get turn_cmp c.args.sums.now) c.args.at (sym c.in-None.ensures)

pub returns-in-Some : goal.returns-in-Some
returns-in-Some c = before_some (get turn_cmp c.args.sums.now) c.args.at c.in-Some.sum c.if-at-eq0.false (sym c.in-Some.ensures)
