-- What the text of an integer stands for (Core 6.3.1, Integers).
use Rattle.std.specs.Prelude.{◌≡◌, ℕ, ◌+◌, ◌-◌, ◌*◌, ◌%◌, ◌^◌, ◌<◌, ◌≤◌, List, [], ◌∷◌, true}
use Rattle.wtypes.specs.declared.ValType.{ValType}
use Rattle.wtypes.specs.declared.Value.{Value}
use Rattle.spec_modules.specs.Operators.{word, value_of}
use mir.Val.{bits}
use Rattle.spec_text.specs.Characters as ascii
use Rattle.spec_text.specs.Lexical.{HexDigit, is_digit}

-- num: the number of the digits, after the number of those before them
pub data Decimal : ℕ → List ℕ → ℕ → Type 0 where
  decimal_end : {n : ℕ} → Decimal n [] n
  -- n:num d:digit ⇒ 10 · n + d
  decimal_digit : {before n b : ℕ} {bs : List ℕ} → is_digit b ≡ true → Decimal (10 * before + (b - ascii.digit_0)) bs n → Decimal before (b ∷ bs) n
  -- '_'?
  decimal_apart : {before n : ℕ} {bs : List ℕ} → Decimal before bs n → Decimal before (ascii.underscore ∷ bs) n

-- hexnum, in the same way
pub data Hexadecimal : ℕ → List ℕ → ℕ → Type 0 where
  hexadecimal_end : {n : ℕ} → Hexadecimal n [] n
  -- n:hexnum h:hexdigit ⇒ 16 · n + h
  hexadecimal_digit : {before n b d : ℕ} {bs : List ℕ} → HexDigit b d → Hexadecimal (16 * before + d) bs n → Hexadecimal before (b ∷ bs) n
  -- '_'?
  hexadecimal_apart : {before n : ℕ} {bs : List ℕ} → Hexadecimal before bs n → Hexadecimal before (ascii.underscore ∷ bs) n

-- uN, whatever its size
pub data Magnitude : List ℕ → ℕ → Type 0 where
  -- n:num ⇒ n
  decimal : {bs : List ℕ} {n : ℕ} → Decimal 0 bs n → Magnitude bs n
  -- '0x' n:hexnum ⇒ n
  hexadecimal : {bs : List ℕ} {n : ℕ} → Hexadecimal 0 bs n → Magnitude (ascii.digit_0 ∷ ascii.lower_x ∷ bs) n

-- u32: no sign (if n < 2³²)
abbrev pub IsU32 : List ℕ → ℕ → Type 0
IsU32 text n = Magnitude text n × (n < 2 ^ 32)

-- iN ::= n:uN ⇒ n | i:sN ⇒ n (if i = signed(n)), as the number from 0 to 2^N - 1 that its bits spell.
-- Own: with a '+' too it goes up to 2^N - 1, where the standard's sN ends at 2^(N-1) - 1.
pub data IsBits (N : ℕ) : List ℕ → ℕ → Type 0 where
  -- n:uN ⇒ n (if n < 2^N)
  no_sign : {text : List ℕ} {n : ℕ} → Magnitude text n → n < 2 ^ N → IsBits N text n
  -- '+'
  plus : {text : List ℕ} {n : ℕ} → Magnitude text n → n < 2 ^ N → IsBits N (ascii.plus ∷ text) n
  -- '-' (if -2^(N-1) ≤ -n)
  minus : {text : List ℕ} {n : ℕ} → Magnitude text n → n ≤ 2 ^ (N - 1) → IsBits N (ascii.minus ∷ text) ((2 ^ N - n) % 2 ^ N)

-- the constant of a type (6.5.6): 'i32.const' n:i32 ⇒ i32.const n, 'i64.const' n:i64 ⇒ i64.const n
pub data IsConstant (type : ValType) : List ℕ → Value → Type 0 where
  constant : {text : List ℕ} {n : ℕ} → IsBits (bits (word type)) text n → IsConstant type text (value_of type n)
