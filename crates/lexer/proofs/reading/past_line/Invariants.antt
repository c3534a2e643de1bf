use Rattle.std.proofs.Common.{◌≡◌, length}
use Rattle.spec_text.specs.Lexical.{is_no_newline}
use Rattle.lexer.specs.Reading.{after_run}
use Rattle.lexer.proofs.reading.past_line.Given as goal

abbrev pub invariant-loop-rest : goal.invariant-loop-rest
invariant-loop-rest l = after_run is_no_newline l.rest ≡ after_run is_no_newline l.text

abbrev pub decreases-loop-rest : goal.decreases-loop-rest
decreases-loop-rest l = length l.rest
