use Rattle.std.proofs.Common.{◌≡◌, ◌++◌, drop, string_bytes}
use Rattle.wblock_show.specs.Lines.{more_entries}
use Rattle.wblock_show.proofs.lines.more_entries_of.Given as goal

abbrev pub invariant-loop-entry : goal.invariant-loop-entry
invariant-loop-entry l = string_bytes l.text ++ more_entries (drop l.entry-index l.entries) ≡ more_entries l.entries
