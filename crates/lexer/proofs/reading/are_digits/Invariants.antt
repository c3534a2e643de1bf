use Rattle.std.proofs.Common.{◌≡◌, drop, false}
use Rattle.lexer.specs.Reading.{is_digits, digit_test}
use Rattle.lexer.proofs.reading.are_digits.Given as goal

abbrev pub invariant-loop-b : goal.invariant-loop-b
invariant-loop-b l = is_digits (digit_test l.hexadecimal) l.had (drop l.b-index l.text) ≡ is_digits (digit_test l.hexadecimal) false l.text
