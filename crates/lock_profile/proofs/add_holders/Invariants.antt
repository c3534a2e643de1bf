use Rattle.std.proofs.Common.{◌≡◌, ◌++◌, length, drop}
use Rattle.lock_profile.specs.Groups.{pairs, numbered}
use Rattle.lock_profile.proofs.add_holders.Given as goal

abbrev pub invariant-loop-one : goal.invariant-loop-one
invariant-loop-one g l =
    l.holders.items ++ numbered (length l.holders.items) (pairs (drop l.one-index l.held)) ≡ l.initial.holders.items ++ numbered (length l.initial.holders.items) (pairs l.held)
