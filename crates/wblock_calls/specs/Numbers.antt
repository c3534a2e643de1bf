-- Numbers of cells as text.
use Rattle.std.specs.Prelude.{ℕ, List, Bool, true, false, decimal}
use Rattle.std.specs.Int.{w64, cast_signed}
use Rattle.std.specs.Fmt.{signed_decimal}

-- a number of 64 bits in decimal; signed it is n below 2^63, and n - 2^64 else (Core Specification, 4.3.2 Integer Operations, Sign Interpretation)
abbrev pub number_text : (signed : Bool) → ℕ → List ℕ
number_text true n = signed_decimal (cast_signed w64 n)
number_text false n = decimal n
