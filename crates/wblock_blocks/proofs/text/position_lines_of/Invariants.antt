use Rattle.std.proofs.Common.{◌≡◌, ◌++◌, drop, string_bytes}
use Rattle.wblock_blocks.specs.Texts.{position_lines}
use Rattle.wblock_blocks.proofs.text.position_lines_of.Given as goal

abbrev pub invariant-loop-position : goal.invariant-loop-position
invariant-loop-position l = (l.number ≡ l.position-index) × (string_bytes l.text ++ position_lines l.number (drop l.position-index l.positions) ≡ position_lines 0 l.positions)
