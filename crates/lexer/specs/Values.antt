-- The values of integers, read digit by digit.
use Rattle.std.specs.Prelude.{◌≡◌, ℕ, ◌+◌, ◌-◌, ◌*◌, ◌%◌, ◌^◌, ◌<◌, Bool, true, false, ◌&&◌, ◌==◌, nat_le, List, [], ◌∷◌, Option, Some, None, option_map, cond}
use Rattle.lexer.specs.Reading.{hex_value, digit_test}

abbrev pub base : Bool → ℕ
base hexadecimal = cond hexadecimal 16 10

-- the number of digits, after the number of those before them; _ is 95
abbrev pub value_at : Bool → ℕ → List ℕ → Option ℕ
value_at hexadecimal before [] = Some before
value_at hexadecimal before (b ∷ bs) =
    cond (b == 95) (value_at hexadecimal before bs) (cond (digit_test hexadecimal b) (value_at hexadecimal (base hexadecimal * before + hex_value b) bs) None)

abbrev pub magnitude_at : List ℕ → Option ℕ
magnitude_at [] = Some 0
magnitude_at (b ∷ []) = value_at false 0 (b ∷ [])
magnitude_at (b ∷ c ∷ bs) = cond ((b == 48) && (c == 120)) (value_at true 0 bs) (value_at false 0 (b ∷ c ∷ bs))

-- at most this
abbrev pub capped : ℕ → Option ℕ → Option ℕ
capped limit None = None
capped limit (Some n) = cond (nat_le n limit) (Some n) None

-- in so many bits; + is 43, - is 45
abbrev pub bits_at : ℕ → List ℕ → Option ℕ
bits_at N [] = capped (2 ^ N - 1) (Some 0)
bits_at N (b ∷ bs) =
    cond (b == 43) (capped (2 ^ N - 1) (magnitude_at bs))
    (cond (b == 45) (option_map (λ n. (2 ^ N - n) % 2 ^ N) (capped (2 ^ (N - 1)) (magnitude_at bs))) (capped (2 ^ N - 1) (magnitude_at (b ∷ bs))))

-- it is below 2^64 and the text's, or there is none below 2^64
abbrev pub Finds : Option ℕ → Option ℕ → Type 0
Finds (Some n) read = read ≡ Some n
Finds None read = (n : ℕ) → n < 2 ^ 64 → read ≡ Some n → ⊥
