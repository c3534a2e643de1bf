use Rattle.std.proofs.Common.{◌≡◌, length}
use Rattle.std.specs.FinMap.{is_sorted}
use Rattle.spec_ledger.specs.Cells.{lock_cmp}
use Rattle.lock_profile.specs.Groups.{pairs}
use Rattle.lock_profile.proofs.locks_rise.Given as goal

abbrev pub invariant-loop-rest : goal.invariant-loop-rest
invariant-loop-rest l = is_sorted lock_cmp (pairs l.rest) ≡ is_sorted lock_cmp (pairs l.held)

abbrev pub decreases-loop-rest : goal.decreases-loop-rest
decreases-loop-rest l = length l.rest
