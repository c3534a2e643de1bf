use Rattle.std.proofs.Common.{◌≡◌, ◌≤◌, length}
use Rattle.lexer.specs.WordsViews.{views}
use Rattle.text_tree.specs.Reading.{before_strings, all_strings}
use Rattle.text_tree.proofs.parts.strings.Given as goal

abbrev pub invariant-loop-next : goal.invariant-loop-next
invariant-loop-next g l = record { read : before_strings l.bytes.items (all_strings (views l.rest.now)) ≡ all_strings (views l.fn.rest.now); within : length l.rest.now ≤ length l.fn.rest.now }

abbrev pub decreases-loop-next : goal.decreases-loop-next
decreases-loop-next g l = length l.rest.now
