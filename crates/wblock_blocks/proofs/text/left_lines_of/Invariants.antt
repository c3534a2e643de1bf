use Rattle.std.proofs.Common.{◌≡◌, ◌++◌, drop, string_bytes}
use Rattle.wblock_blocks.specs.Texts.{left_lines}
use Rattle.wblock_blocks.proofs.text.left_lines_of.Given as goal

abbrev pub invariant-loop-call : goal.invariant-loop-call
invariant-loop-call l = string_bytes l.text ++ left_lines (drop l.call-index l.left) ≡ left_lines l.left
