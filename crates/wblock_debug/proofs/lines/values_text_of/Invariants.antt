use Rattle.std.proofs.Common.{◌≡◌, ◌++◌, drop, string_bytes}
use Rattle.wblock_debug.specs.Lines.{values_text}
use Rattle.wblock_debug.proofs.lines.values_text_of.Given as goal

abbrev pub invariant-loop-value : goal.invariant-loop-value
invariant-loop-value g l = string_bytes l.text ++ values_text (drop l.value-index l.values) ≡ values_text l.values
