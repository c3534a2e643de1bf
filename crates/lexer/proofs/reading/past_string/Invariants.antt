use Rattle.std.proofs.Common.{◌≡◌, length}
use Rattle.lexer.specs.declared.states.InString.TheVariants.{Plain}
use Rattle.lexer.specs.Reading.{after_string, InRange}
use Rattle.lexer.proofs.reading.past_string.Given as goal

abbrev pub invariant-loop-rest : goal.invariant-loop-rest
invariant-loop-rest l = (after_string l.state l.rest ≡ after_string Plain l.text) × InRange l.state

abbrev pub decreases-loop-rest : goal.decreases-loop-rest
decreases-loop-rest l = length l.rest
