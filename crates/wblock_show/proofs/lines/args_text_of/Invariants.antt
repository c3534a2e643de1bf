use Rattle.std.proofs.Common.{◌≡◌, ◌++◌, drop, string_bytes}
use Rattle.wblock_show.specs.Lines.{args_text}
use Rattle.wblock_show.proofs.lines.args_text_of.Given as goal

abbrev pub invariant-loop-value : goal.invariant-loop-value
invariant-loop-value l = string_bytes l.text ++ args_text (drop l.value-index l.args) ≡ args_text l.args
