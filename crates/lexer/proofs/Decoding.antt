-- A string between its quotes, read byte by byte and in the grammar.
use Rattle.std.proofs.Common.{◌≡◌, ℕ, ◌+◌, ◌*◌, ◌<◌, ◌≤◌, min, true, false, ◌||◌, List, [], ◌∷◌, ◌++◌, refl, sym, ap, ◌∙◌, arith, inl, inr}
use Rattle.std.specs.Prelude.{◌==◌, ◌%◌, nat_le, encode_utf8}
use Rattle.std.specs.Char.{InScalarRange}
use Rattle.std.proofs.lemmas.Bool.{cond-false, cond-true, and_parts, or_parts, ne_eqb}
use Rattle.spec_text.specs.Lexical.{is_hex, is_plain, HexDigit, ShortEscape, tab, newline, return, double_quote, quote, backslash, HexNumber, whole, more, StringBody, nothing, plain, short, byte, scalar}
use Rattle.lexer.specs.Reading.{hex_value, is_short, is_scalar}
use Rattle.lexer.specs.declared.strings.InString.{InString}
use Rattle.lexer.specs.declared.strings.InString.TheVariants.{Plain, Slash, Second, Digits}
use Rattle.lexer.proofs.StringReading.{not_true, hex_is_apart, digit_test, digit_small, range_test}
use Rattle.lexer.specs.Strings.{nibble, next_state, bytes_at, decode, decoded}

false_true : false ≡ true → ⊥
false_true e = cc

digit_nibble : {b m : ℕ} → HexDigit b m → nibble b ≡ m
digit_nibble {b} {m} d = let small = digit_small d in ap (λ n. n % 16) (digit_test d).1 ∙ omega arith

pub digit_is_hex : {b m : ℕ} → HexDigit b m → (is_hex b ≡ true) × (hex_value b ≡ m) × ((b == 95) ≡ false)
digit_is_hex {b} d =
    let t = digit_test d in
    (t.0, t.1, ne_eqb b 95 (λ e. false_true (sym (ap is_hex e) ∙ t.0)))

-- ---- one byte

-- one byte on, where it completes these bytes and leads to this state
one_on : (state to : InString) (b : ℕ) (bs out : List ℕ) → bytes_at state b ≡ out → next_state state b ≡ to → decode state (b ∷ bs) ≡ out ++ decode to bs
one_on state to b bs out e f = ap (λ (xs : List ℕ). xs ++ decode (next_state state b) bs) e ∙ ap (λ s. out ++ decode s bs) f

plain_no_slash : (b : ℕ) → is_plain b ≡ true → (b == 92) ≡ false
plain_no_slash b h = (or_parts ((b == 127) || (b == 34)) (b == 92) (not_true _ (and_parts (nat_le 32 b) _ h).1)).1

short_on : {b c : ℕ} (bs : List ℕ) → ShortEscape b c → decode Slash (b ∷ bs) ≡ c ∷ decode Plain bs
short_on bs tab = refl
short_on bs newline = refl
short_on bs return = refl
short_on bs double_quote = refl
short_on bs quote = refl
short_on bs backslash = refl

second_on : (b c m n : ℕ) (bs : List ℕ) → HexDigit b m → HexDigit c n → decode Slash (b ∷ c ∷ bs) ≡ (16 * m + n) ∷ decode Plain bs
second_on b c m n bs h k =
    let apart = hex_is_apart b (digit_test h).0 in
    one_on Slash (Second (nibble b)) b (c ∷ bs) [] (cond-false (is_short b) _ _ apart.0) (cond-false (is_short b) _ _ apart.0 ∙ cond-false (b == 117) _ _ apart.1)
    ∙ ap (λ (x : ℕ). (16 * x + nibble c) ∷ decode Plain bs) (digit_nibble h) ∙ ap (λ (x : ℕ). (16 * m + x) ∷ decode Plain bs) (digit_nibble k)

-- ---- a scalar value

least : {k n : ℕ} {digits : List ℕ} → HexNumber k digits n → k ≤ n
least (whole {n}) = omega arith
least (more d h) = let l = least h in omega arith

digit_on : (before b m : ℕ) (bs : List ℕ) → HexDigit b m → 16 * before + m < 1114112 → decode (Digits before) (b ∷ bs) ≡ decode (Digits (16 * before + m)) bs
digit_on before b m bs d l =
    let apart = hex_is_apart b (digit_test d).0 in
    let value : min (16 * before + nibble b) 1114112 ≡ 16 * before + m = ap (λ (x : ℕ). min (16 * before + x) 1114112) (digit_nibble d) ∙ omega arith in
    one_on (Digits before) (Digits (16 * before + m)) b bs [] (cond-false (b == 125) _ _ apart.2) (cond-false (b == 125) _ _ apart.2 ∙ ap (λ x. Digits x) value)

below : (n : ℕ) → InScalarRange n → n < 1114112
below n (inl l) = omega arith
below n (inr r) = omega (arith, r.1)

digits_on : {k n : ℕ} {digits : List ℕ} → HexNumber k digits n → InScalarRange n → (body : List ℕ) → decode (Digits k) (digits ++ 125 ∷ body) ≡ encode_utf8 n ++ decode Plain body
digits_on (whole {n}) r body = ap (λ (xs : List ℕ). xs ++ decode Plain body) (cond-true (is_scalar n) (encode_utf8 n) [] (range_test n r))
digits_on (more {before} {b} {m} {n} {bs} d h) r body =
    let least_now = least h in
    let l = below n r in
    digit_on before b m (bs ++ 125 ∷ body) d (omega arith) ∙ digits_on h r body

-- ---- strings

decoding : {body bytes : List ℕ} → StringBody body bytes → decode Plain body ≡ bytes
decoding nothing = refl
decoding (plain {b} {body} h s) =
    one_on Plain Plain b body (b ∷ []) (cond-false (b == 92) _ _ (plain_no_slash b h)) (cond-false (b == 92) _ _ (plain_no_slash b h)) ∙ ap (λ (xs : List ℕ). b ∷ xs) (decoding s)
decoding (short {b} {c} {body} h s) = short_on body h ∙ ap (λ (xs : List ℕ). c ∷ xs) (decoding s)
decoding (byte {b} {c} {m} {n} {body} h k s) = second_on b c m n body h k ∙ ap (λ (xs : List ℕ). (16 * m + n) ∷ xs) (decoding s)
decoding (scalar {b} {m} {n} {digits} {body} d h r s) =
    digit_on 0 b m (digits ++ 125 ∷ body) d (let l = digit_small d in omega arith)
    ∙ ap (λ (x : ℕ). decode (Digits x) (digits ++ 125 ∷ body)) (let e : 16 * 0 + m ≡ m = omega arith in e)
    ∙ digits_on h r body ∙ ap (λ (xs : List ℕ). encode_utf8 n ++ xs) (decoding s)

-- what stands between the quotes stands for the decoded bytes
pub string_is_decoded : {body bytes : List ℕ} → StringBody body bytes → decoded body ≡ bytes
string_is_decoded s = decoding s
