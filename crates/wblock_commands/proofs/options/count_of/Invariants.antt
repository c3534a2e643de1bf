use Rattle.std.proofs.Common.{◌≡◌, ◌≤◌, ◌+◌, drop}
use Rattle.wblock_commands.specs.Options.{count_of}
use Rattle.wblock_line.specs.Words.{choices}
use Rattle.wblock_commands.proofs.options.count_of.Given as goal

abbrev pub invariant-loop-option : goal.invariant-loop-option
invariant-loop-option l =
    (l.count + count_of l.name (choices (drop l.option-index l.options)) ≡ count_of l.name (choices l.options))
    × (l.count ≤ l.option-index)
