use Rattle.std.proofs.Common.{◌≡◌, ◌++◌, drop, string_bytes}
use Rattle.wblock_show.specs.Lines.{calls_of, position_lines}
use Rattle.wblock_show.proofs.lines.position_lines_of.Given as goal

abbrev pub invariant-loop-position : goal.invariant-loop-position
invariant-loop-position l =
    (l.number ≡ l.position-index)
    × (string_bytes l.text ++ position_lines (calls_of l.calls) l.chains l.number (drop l.position-index l.positions) ≡ position_lines (calls_of l.calls) l.chains 0 l.positions)
