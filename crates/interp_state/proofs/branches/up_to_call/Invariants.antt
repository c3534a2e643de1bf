use Rattle.std.proofs.Common.{◌≡◌, ◌≤◌, length, take}
use Rattle.interp_state.specs.Views.{opens_of}
use Rattle.laws_reduction.specs.Branches.{in_call}
use Rattle.interp_state.proofs.branches.up_to_call.Given as goal

abbrev pub invariant-loop-left : goal.invariant-loop-left
invariant-loop-left g l = record { within : l.left ≤ length l.entries; same : in_call (opens_of (take l.left l.entries)) ≡ in_call (opens_of l.entries) }

abbrev pub decreases-loop-left : goal.decreases-loop-left
decreases-loop-left g l = l.left
