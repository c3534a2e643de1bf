use Rattle.std.proofs.Common.{◌≡◌, drop}
use Rattle.lexer.specs.Values.{value_at}
use Rattle.lexer.proofs.numbers.digits.Given as goal

abbrev pub invariant-loop-b : goal.invariant-loop-b
invariant-loop-b l = value_at l.hexadecimal l.value (drop l.b-index l.text) ≡ value_at l.hexadecimal 0 l.text
