use Rattle.std.proofs.Common.{◌≡◌, ◌++◌, drop, string_bytes}
use Rattle.wblock_picture.specs.Words.{entries_text}
use Rattle.wblock_picture.proofs.words.entries_text_of.Given as goal

abbrev pub invariant-loop-entry : goal.invariant-loop-entry
invariant-loop-entry l = string_bytes l.text ++ entries_text (drop l.entry-index l.entries) ≡ entries_text l.entries
