use Rattle.std.proofs.Common.{◌≡◌, ◌++◌, drop, filter}
use Rattle.wblock_line.specs.Words.{choices}
use Rattle.wblock_call.specs.Styles.{is_named}
use Rattle.wblock_call.proofs.style.options_named.Given as goal

abbrev pub invariant-loop-option : goal.invariant-loop-option
invariant-loop-option l = choices l.found.items ++ filter (is_named l.name) (choices (drop l.option-index l.options)) ≡ filter (is_named l.name) (choices l.options)
