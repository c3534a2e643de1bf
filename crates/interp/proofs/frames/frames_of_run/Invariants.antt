use Rattle.std.proofs.Common.{◌≡◌, ◌++◌, drop}
use Rattle.interp.specs.Chains.{waiting_frames}
use Rattle.interp.proofs.frames.frames_of_run.Given as goal

abbrev pub invariant-loop-level : goal.invariant-loop-level
invariant-loop-level g l = l.chain.items ++ waiting_frames l.level (drop l.level l.run.outer.items) ≡ waiting_frames 0 l.run.outer.items
