use Rattle.std.proofs.Common.{◌≡◌, ◌++◌, drop, filter}
use Rattle.wblock_line.specs.Words.{choices}
use Rattle.wblock_call.specs.Styles.{is_other}
use Rattle.wblock_call.proofs.style.others_of.Given as goal

abbrev pub invariant-loop-option : goal.invariant-loop-option
invariant-loop-option l = choices l.found.items ++ filter is_other (choices (drop l.option-index l.options)) ≡ filter is_other (choices l.options)
