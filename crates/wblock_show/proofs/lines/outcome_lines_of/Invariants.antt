use Rattle.std.proofs.Common.{◌≡◌, ◌++◌, drop, string_bytes}
use Rattle.wblock_show.specs.Lines.{outcome_lines}
use Rattle.wblock_show.proofs.lines.outcome_lines_of.Given as goal

abbrev pub invariant-loop-outcome : goal.invariant-loop-outcome
invariant-loop-outcome l = string_bytes l.text ++ outcome_lines (drop l.outcome-index l.outcomes) ≡ outcome_lines l.outcomes
