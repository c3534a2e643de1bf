use Rattle.std.proofs.Common.{◌≡◌, ◌++◌, drop, string_bytes}
use Rattle.wblock_debug.specs.Lines.{frame_lines}
use Rattle.wblock_debug.proofs.lines.frame_lines_of.Given as goal

abbrev pub invariant-loop-frame : goal.invariant-loop-frame
invariant-loop-frame g l = string_bytes l.text ++ frame_lines (drop l.frame-index l.frames) ≡ frame_lines l.frames
