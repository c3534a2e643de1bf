use Rattle.std.proofs.Common.{◌≡◌, ◌+◌, ◌++◌, drop}
use Rattle.lock_profile.specs.Groups.{pairs, with_turns}
use Rattle.lock_profile.proofs.entries_with.Given as goal

abbrev pub invariant-loop-one : goal.invariant-loop-one
invariant-loop-one g l =
    (l.place ≡ l.start + l.one-index) × (l.entries.items ++ with_turns (pairs (drop l.one-index l.held)) (drop l.place l.turns) ≡ with_turns (pairs l.held) (drop l.start l.turns))
