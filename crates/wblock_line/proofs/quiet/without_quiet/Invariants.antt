use Rattle.std.proofs.Common.{◌≡◌, ◌++◌, true, drop, if◌then◌else◌}
use Rattle.wblock_calls.specs.Words.{texts}
use Rattle.wblock_line.specs.ProgressOfWords.{others, has_quiet}
use Rattle.wblock_line.proofs.quiet.without_quiet.Given as goal

abbrev pub invariant-loop-word : goal.invariant-loop-word
invariant-loop-word l =
    (texts l.others.items ++ others (texts (drop l.word-index l.words)) ≡ others (texts l.words))
    × ((if l.quiet then true else has_quiet (texts (drop l.word-index l.words))) ≡ has_quiet (texts l.words))
