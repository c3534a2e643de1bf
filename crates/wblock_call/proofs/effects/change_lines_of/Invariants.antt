use Rattle.std.proofs.Common.{◌≡◌, ◌++◌, drop, string_bytes}
use Rattle.lock_profile.specs.Groups.{pairs}
use Rattle.wblock_call.specs.Effects.{change_lines}
use Rattle.wblock_call.proofs.effects.change_lines_of.Given as goal

abbrev pub invariant-loop-held : goal.invariant-loop-held
invariant-loop-held g l = string_bytes l.text ++ change_lines l.signed l.before.cells l.later.cells (pairs (drop l.held-index l.locks)) ≡ change_lines l.signed l.before.cells l.later.cells (pairs l.locks)
