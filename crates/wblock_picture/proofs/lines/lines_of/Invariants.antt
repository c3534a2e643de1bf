use Rattle.std.proofs.Common.{◌≡◌, ◌++◌, drop, string_bytes}
use Rattle.wblock_picture.specs.Lines.{lines}
use Rattle.wblock_picture.proofs.lines.lines_of.Given as goal

abbrev pub invariant-loop-edge : goal.invariant-loop-edge
invariant-loop-edge l = string_bytes l.text ++ lines l.seats (drop l.edge-index l.edges) ≡ lines l.seats l.edges
