use Rattle.std.proofs.Common.{◌≡◌, ◌++◌, length, drop}
use Rattle.lock_profile.specs.Groups.{numbered, all_held}
use Rattle.lock_profile.proofs.all_holders.Given as goal

abbrev pub invariant-loop-one : goal.invariant-loop-one
invariant-loop-one g l = l.holders.items ++ numbered (length l.holders.items) (all_held (drop l.one-index l.touched)) ≡ numbered 0 (all_held l.touched)
