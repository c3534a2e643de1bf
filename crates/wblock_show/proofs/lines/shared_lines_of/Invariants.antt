use Rattle.std.proofs.Common.{◌≡◌, ◌++◌, drop, string_bytes}
use Rattle.wblock_show.specs.Lines.{shared_lines}
use Rattle.wblock_show.proofs.lines.shared_lines_of.Given as goal

abbrev pub invariant-loop-shared : goal.invariant-loop-shared
invariant-loop-shared l = string_bytes l.text ++ shared_lines (drop l.shared-index l.hottest) ≡ shared_lines l.hottest
