use Rattle.std.proofs.Common.{◌≡◌, length, map}
use Rattle.std.specs.FinMap.{is_sorted}
use Rattle.spec_ledger.specs.Cells.{lock_cmp}
use Rattle.lock_profile.proofs.entries_rise.Given as goal

abbrev pub invariant-loop-rest : goal.invariant-loop-rest
invariant-loop-rest l = is_sorted lock_cmp (map (λ e. (e.lock, e)) l.rest) ≡ is_sorted lock_cmp (map (λ e. (e.lock, e)) l.entries)

abbrev pub decreases-loop-rest : goal.decreases-loop-rest
decreases-loop-rest l = length l.rest
