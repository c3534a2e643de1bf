use Rattle.std.proofs.Common.{◌≡◌, ◌++◌, drop, string_bytes}
use Rattle.lock_profile.specs.Groups.{pairs}
use Rattle.wblock_call.specs.Effects.{lock_lines}
use Rattle.wblock_call.proofs.effects.lock_lines_of.Given as goal

abbrev pub invariant-loop-held : goal.invariant-loop-held
invariant-loop-held l = string_bytes l.text ++ lock_lines l.signed (pairs (drop l.held-index l.locks)) ≡ lock_lines l.signed (pairs l.locks)
