use Rattle.std.proofs.Common.{◌≡◌, ◌≤◌, length, take}
use Rattle.std.specs.Prelude.{reverse}
use Rattle.interp_state.specs.Unwinding.{frames_from, part_frames}
use Rattle.interp_state.specs.Views.{opens_of}
use Rattle.interp_state.proofs.frames.frames_of.Given as goal

abbrev pub invariant-loop-left : goal.invariant-loop-left
invariant-loop-left g l = record {
  within : l.left ≤ length l.parts.entries.items;
  same : frames_from (opens_of (take l.left l.parts.entries.items)) l.next (reverse l.frames.items) ≡ part_frames l.parts;
}

abbrev pub decreases-loop-left : goal.decreases-loop-left
decreases-loop-left g l = l.left
