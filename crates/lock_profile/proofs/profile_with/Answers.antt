use Rattle.std.proofs.Common.{T, map, subst, sym, drop}
use Rattle.std.specs.FinMap as finite
use Rattle.spec_ledger.specs.Cells.{lock_cmp}
use Rattle.lock_profile.specs.Groups.{pairs}
use Rattle.lock_profile.proofs.Groups.{sorted_with}
use Rattle.lock_profile.proofs.profile_with.Goals as goal

pub invariant_of-result : goal.invariant_of-result
invariant_of-result g c =
    let sorted : T (finite.is_sorted lock_cmp (pairs c.lock_modes.result.now)) = subst (λ es. T (finite.is_sorted lock_cmp es)) (sym c.lock_modes.ensures) (finite.entries_sorted c.args.touched.now) in
    subst (λ es. T (finite.is_sorted lock_cmp (map (λ e. (e.lock, e)) es))) (sym c.in_ok-entries.ensures) (sorted_with (pairs c.lock_modes.result.now) (drop c.args.start c.args.turns.now) sorted)
