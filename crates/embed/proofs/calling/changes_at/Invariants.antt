use Rattle.std.proofs.Common.{◌≡◌, ◌++◌, drop, map}
use Rattle.lock_profile.specs.Groups.{pairs}
use Rattle.embed.specs.Given.{change_at}
use Rattle.embed.proofs.calling.changes_at.Given as goal

abbrev pub invariant-loop-held : goal.invariant-loop-held
invariant-loop-held l =
    l.all.items ++ map (change_at l.before.cells l.later.cells) (pairs (drop l.held-index l.locks)) ≡ map (change_at l.before.cells l.later.cells) (pairs l.locks)
