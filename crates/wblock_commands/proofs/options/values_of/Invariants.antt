use Rattle.std.proofs.Common.{◌≡◌, ◌++◌, drop}
use Rattle.wblock_commands.specs.Options.{values_in}
use Rattle.wblock_calls.specs.Words.{texts}
use Rattle.wblock_line.specs.Words.{choices}
use Rattle.wblock_commands.proofs.options.values_of.Given as goal

abbrev pub invariant-loop-option : goal.invariant-loop-option
invariant-loop-option l = texts l.values.items ++ values_in l.name (choices (drop l.option-index l.options)) ≡ values_in l.name (choices l.options)
