-- What a string between its quotes stands for, read byte by byte.
use Rattle.std.specs.Prelude.{ℕ, ◌+◌, ◌*◌, ◌%◌, ◌<◌, ◌≤◌, min, ◌==◌, List, [], ◌∷◌, ◌++◌, cond, encode_utf8}
use Rattle.lexer.specs.Reading.{hex_value, is_short, is_scalar}
use Rattle.lexer.specs.declared.strings.InString.{InString}
use Rattle.lexer.specs.declared.strings.InString.TheVariants.{Plain, Slash, Brace, Second, Digits}

abbrev pub nibble : ℕ → ℕ
nibble b = hex_value b % 16

abbrev pub short_value : ℕ → ℕ
short_value b = cond (b == 116) 9 (cond (b == 110) 10 (cond (b == 114) 13 b))

-- the state behind a byte
abbrev pub next_state : InString → ℕ → InString
next_state Plain b = cond (b == 92) Slash Plain
next_state Slash b = cond (is_short b) Plain (cond (b == 117) Brace (Second (nibble b)))
next_state Brace b = Digits 0
next_state (Second m) b = Plain
next_state (Digits n) b = cond (b == 125) Plain (Digits (min (16 * n + nibble b) 1114112))

abbrev pub scalar_bytes : ℕ → List ℕ
scalar_bytes n = cond (is_scalar n) (encode_utf8 n) []

-- the bytes that a byte completes
abbrev pub bytes_at : InString → ℕ → List ℕ
bytes_at Plain b = cond (b == 92) [] (b ∷ [])
bytes_at Slash b = cond (is_short b) (short_value b ∷ []) []
bytes_at Brace b = []
bytes_at (Second m) b = (16 * m + nibble b) ∷ []
bytes_at (Digits n) b = cond (b == 125) (scalar_bytes n) []

abbrev pub decode : InString → List ℕ → List ℕ
decode state [] = []
decode state (b ∷ bs) = bytes_at state b ++ decode (next_state state b) bs

-- what the bytes between the quotes stand for
abbrev pub decoded : List ℕ → List ℕ
decoded body = decode Plain body

-- the numbers within a string have not grown past their bounds
abbrev pub InRange : InString → Type 0
InRange (Second m) = m < 16
InRange (Digits n) = n ≤ 1114112
InRange _ = Unit {0}
