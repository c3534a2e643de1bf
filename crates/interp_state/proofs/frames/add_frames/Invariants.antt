use Rattle.std.proofs.Common.{◌≡◌, ◌++◌, drop}
use Rattle.interp_state.specs.Frames.{in_level}
use Rattle.interp_state.proofs.frames.add_frames.Given as goal

abbrev pub invariant-loop-frame : goal.invariant-loop-frame
invariant-loop-frame g l = l.chain.items ++ in_level l.level l.contract (drop l.frame-index l.frames) ≡ l.fn.chain.items ++ in_level l.level l.contract l.frames
