-- The values of integers, as they are read and in the grammar.
use Rattle.std.proofs.Common.{◌≡◌, ◌≢◌, ℕ, ◌+◌, ◌*◌, ◌-◌, ◌%◌, ◌^◌, ◌<◌, ◌≤◌, Bool, true, false, ◌&&◌, cond, List, [], ◌∷◌, Option, Some, None, refl, sym, ap, ◌∙◌, subst, arith, inl, inr}
use Rattle.std.specs.Prelude.{◌==◌, nat_le, option_map, IfSome, IfNone}
use Rattle.std.proofs.lemmas.Bool.{cond-true, cond-false, eqb-true, ne_eqb, leb-true, le-leb, and_parts, and_right}
use Rattle.spec_text.specs.Lexical.{is_digit, is_hex}
use Rattle.spec_text.specs.Numbers.{Decimal, decimal_end, decimal_digit, decimal_apart, Hexadecimal, hexadecimal_end, hexadecimal_digit, hexadecimal_apart, Magnitude, decimal, hexadecimal, IsU32, IsBits, no_sign, plus, minus}
use Rattle.lexer.specs.Reading.{hex_value, digit_test}
use Rattle.lexer.specs.Values.{base, value_at, magnitude_at, capped, bits_at}
use Rattle.lexer.proofs.Spellings.{chosen}
use Rattle.lexer.proofs.StringReading.{digit_from_test}
use Rattle.lexer.proofs.Decoding.{digit_is_hex}

none_some : (n : ℕ) → None ≡ Some n → ⊥
none_some n e = cc

inside : Option ℕ → ℕ
inside None = 0
inside (Some n) = n

some_same : (m n : ℕ) → Some m ≡ Some n → m ≡ n
unfolding inside
some_same m n e = ap inside e

-- ---- digits

digit_high : (b : ℕ) → is_digit b ≡ true → b ≤ 57
digit_high b h = leb-true b 57 (and_parts (nat_le 48 b) (nat_le b 57) h).1

digit_value : (b : ℕ) → is_digit b ≡ true → hex_value b ≡ b - 48
digit_value b h = cond-true (nat_le b 57) _ _ (and_parts (nat_le 48 b) (nat_le b 57) h).1

one_digit : (hex : Bool) (before b d : ℕ) (bs : List ℕ) → (b == 95) ≡ false → digit_test hex b ≡ true → hex_value b ≡ d → value_at hex before (b ∷ bs) ≡ value_at hex (base hex * before + d) bs
one_digit hex before b d bs n t v =
    cond-false (b == 95) (value_at hex before bs) (cond (digit_test hex b) (value_at hex (base hex * before + hex_value b) bs) None) n
    ∙ cond-true (digit_test hex b) (value_at hex (base hex * before + hex_value b) bs) None t ∙ ap (λ (x : ℕ). value_at hex (base hex * before + x) bs) v

decimal_is_read : {before n : ℕ} {bs : List ℕ} → Decimal before bs n → value_at false before bs ≡ Some n
decimal_is_read decimal_end = refl
decimal_is_read (decimal_digit {before} {n} {b} {bs} h d) =
    let low = digit_high b h in one_digit false before b (b - 48) bs (ne_eqb b 95 (λ e. omega arith)) h (digit_value b h) ∙ decimal_is_read d
decimal_is_read (decimal_apart d) = decimal_is_read d

read_is_decimal : (bs : List ℕ) (before n : ℕ) → value_at false before bs ≡ Some n → Decimal before bs n
read_is_decimal [] before n e = subst (λ (x : ℕ). Decimal before [] x) (some_same before n e) decimal_end
read_is_decimal (b ∷ bs) before n e =
    elim (chosen (b == 95) (value_at false before bs) _ (Some n) e) [
      | inl h ↦ subst (λ (x : ℕ). Decimal before (x ∷ bs) n) (sym (eqb-true b 95 h.0)) (decimal_apart (read_is_decimal bs before n h.1))
      | inr h ↦ elim (chosen (is_digit b) (value_at false (10 * before + hex_value b) bs) None (Some n) h.1) [
        | inl d ↦ decimal_digit d.0 (read_is_decimal bs (10 * before + (b - 48)) n (ap (λ (x : ℕ). value_at false (10 * before + x) bs) (sym (digit_value b d.0)) ∙ d.1))
        | inr d ↦ absurd (none_some n d.1)
      ]
    ]

hexadecimal_is_read : {before n : ℕ} {bs : List ℕ} → Hexadecimal before bs n → value_at true before bs ≡ Some n
hexadecimal_is_read hexadecimal_end = refl
hexadecimal_is_read (hexadecimal_digit {before} {n} {b} {d} {bs} h r) =
    let t = digit_is_hex h in one_digit true before b d bs t.2 t.0 t.1 ∙ hexadecimal_is_read r
hexadecimal_is_read (hexadecimal_apart r) = hexadecimal_is_read r

read_is_hexadecimal : (bs : List ℕ) (before n : ℕ) → value_at true before bs ≡ Some n → Hexadecimal before bs n
read_is_hexadecimal [] before n e = subst (λ (x : ℕ). Hexadecimal before [] x) (some_same before n e) hexadecimal_end
read_is_hexadecimal (b ∷ bs) before n e =
    elim (chosen (b == 95) (value_at true before bs) _ (Some n) e) [
      | inl h ↦ subst (λ (x : ℕ). Hexadecimal before (x ∷ bs) n) (sym (eqb-true b 95 h.0)) (hexadecimal_apart (read_is_hexadecimal bs before n h.1))
      | inr h ↦ elim (chosen (is_hex b) (value_at true (16 * before + hex_value b) bs) None (Some n) h.1) [
        | inl d ↦ hexadecimal_digit (digit_from_test b d.0) (read_is_hexadecimal bs (16 * before + hex_value b) n d.1)
        | inr d ↦ absurd (none_some n d.1)
      ]
    ]

-- ---- magnitudes

second_is_no_x : (b c : ℕ) (bs : List ℕ) (before n : ℕ) → Decimal before (b ∷ c ∷ bs) n → ((b == 48) && (c == 120)) ≡ false
second_is_no_x b c bs before n (decimal_digit h (decimal_digit k d)) = let l = digit_high c k in and_right (b == 48) (c == 120) (ne_eqb c 120 (λ e. omega arith))
second_is_no_x b c bs before n (decimal_digit h (decimal_apart d)) = and_right (b == 48) (95 == 120) refl
second_is_no_x b c bs before n (decimal_apart d) = refl

decimal_magnitude : (bs : List ℕ) (n : ℕ) → Decimal 0 bs n → magnitude_at bs ≡ Some n
decimal_magnitude [] n d = decimal_is_read d
decimal_magnitude (b ∷ []) n d = decimal_is_read d
decimal_magnitude (b ∷ c ∷ bs) n d = cond-false ((b == 48) && (c == 120)) (value_at true 0 bs) (value_at false 0 (b ∷ c ∷ bs)) (second_is_no_x b c bs 0 n d) ∙ decimal_is_read d

pub magnitude_is_read : {bs : List ℕ} {n : ℕ} → Magnitude bs n → magnitude_at bs ≡ Some n
magnitude_is_read (decimal {bs} {n} d) = decimal_magnitude bs n d
magnitude_is_read (hexadecimal h) = hexadecimal_is_read h

pub read_is_magnitude : (bs : List ℕ) (n : ℕ) → magnitude_at bs ≡ Some n → Magnitude bs n
read_is_magnitude [] n e = decimal (read_is_decimal [] 0 n e)
read_is_magnitude (b ∷ []) n e = decimal (read_is_decimal (b ∷ []) 0 n e)
read_is_magnitude (b ∷ c ∷ bs) n e =
    elim (chosen ((b == 48) && (c == 120)) (value_at true 0 bs) (value_at false 0 (b ∷ c ∷ bs)) (Some n) e) [
      | inl h ↦
          let p = and_parts (b == 48) (c == 120) h.0 in
          subst (λ (x : ℕ). Magnitude (x ∷ c ∷ bs) n) (sym (eqb-true b 48 p.0)) (subst (λ (x : ℕ). Magnitude (48 ∷ x ∷ bs) n) (sym (eqb-true c 120 p.1)) (hexadecimal (read_is_hexadecimal bs 0 n h.1)))
      | inr h ↦ decimal (read_is_decimal (b ∷ c ∷ bs) 0 n h.1)
    ]

-- ---- limits

pub capped_read : (limit n : ℕ) (o : Option ℕ) → o ≡ Some n → n ≤ limit → capped limit o ≡ Some n
capped_read limit n o e l = ap (capped limit) e ∙ cond-true (nat_le n limit) (Some n) None (le-leb n limit l)

pub capped_found : (limit n : ℕ) (o : Option ℕ) → capped limit o ≡ Some n → (o ≡ Some n) × (n ≤ limit)
capped_found limit n None e = absurd (none_some n e)
capped_found limit n (Some m) e = elim (chosen (nat_le m limit) (Some m) None (Some n) e) [
  | inl h ↦ (h.1, subst (λ (x : ℕ). x ≤ limit) (some_same m n h.1) (leb-true m limit h.0))
  | inr h ↦ absurd (none_some n h.1)
]

-- ---- bits

sign_of : {b n : ℕ} {bs : List ℕ} → Magnitude (b ∷ bs) n → ((b == 43) ≡ false) × ((b == 45) ≡ false)
sign_of {b} (decimal (decimal_digit h d)) =
    let l = leb-true 48 b (and_parts (nat_le 48 b) (nat_le b 57) h).0 in
    (ne_eqb b 43 (λ e. omega arith), ne_eqb b 45 (λ e. omega arith))
sign_of (decimal (decimal_apart d)) = (refl, refl)
sign_of (hexadecimal h) = (refl, refl)

abbrev opposite : ℕ → ℕ → ℕ
opposite N n = (2 ^ N - n) % 2 ^ N

no_sign_read : (N n : ℕ) (text : List ℕ) → Magnitude text n → n < 2 ^ N → bits_at N text ≡ Some n
no_sign_read N n [] m l = capped_read (2 ^ N - 1) n (Some 0) (magnitude_is_read m) (omega arith)
no_sign_read N n (b ∷ bs) m l =
    let s = sign_of m in
    cond-false (b == 43) (capped (2 ^ N - 1) (magnitude_at bs)) _ s.0
    ∙ cond-false (b == 45) (option_map (opposite N) (capped (2 ^ (N - 1)) (magnitude_at bs))) (capped (2 ^ N - 1) (magnitude_at (b ∷ bs))) s.1
    ∙ capped_read (2 ^ N - 1) n (magnitude_at (b ∷ bs)) (magnitude_is_read m) (omega arith)

pub bits_are_read : {N n : ℕ} {text : List ℕ} → IsBits N text n → bits_at N text ≡ Some n
bits_are_read {N} (no_sign {text} {n} m l) = no_sign_read N n text m l
bits_are_read {N} (plus {text} {n} m l) = capped_read (2 ^ N - 1) n (magnitude_at text) (magnitude_is_read m) (omega arith)
bits_are_read {N} (minus {text} {n} m l) = ap (option_map (opposite N)) (capped_read (2 ^ (N - 1)) n (magnitude_at text) (magnitude_is_read m) l)

map_some : (f : ℕ → ℕ) (o : Option ℕ) (y : ℕ) → option_map f o ≡ Some y → (x : ℕ) × (o ≡ Some x) × (f x ≡ y)
map_some f None y e = absurd (none_some y e)
map_some f (Some x) y e = (x, refl, some_same (f x) y e)

pub read_are_bits : (N : ℕ) → 1 ≤ 2 ^ N → (text : List ℕ) (n : ℕ) → bits_at N text ≡ Some n → IsBits N text n
read_are_bits N one [] n e = let c = capped_found (2 ^ N - 1) n (Some 0) e in no_sign (read_is_magnitude [] n c.0) (omega (arith, c.1))
read_are_bits N one (b ∷ bs) n e =
    elim (chosen (b == 43) (capped (2 ^ N - 1) (magnitude_at bs)) _ (Some n) e) [
      | inl h ↦
          let c = capped_found (2 ^ N - 1) n (magnitude_at bs) h.1 in
          subst (λ (x : ℕ). IsBits N (x ∷ bs) n) (sym (eqb-true b 43 h.0)) (plus (read_is_magnitude bs n c.0) (omega (arith, c.1)))
      | inr h ↦ elim (chosen (b == 45) (option_map (opposite N) (capped (2 ^ (N - 1)) (magnitude_at bs))) (capped (2 ^ N - 1) (magnitude_at (b ∷ bs))) (Some n) h.1) [
        | inl q ↦
            let m = map_some (opposite N) (capped (2 ^ (N - 1)) (magnitude_at bs)) n q.1 in
            let c = capped_found (2 ^ (N - 1)) m.0 (magnitude_at bs) m.1 in
            subst (λ (x : ℕ). IsBits N (x ∷ bs) n) (sym (eqb-true b 45 q.0)) (subst (λ (x : ℕ). IsBits N (45 ∷ bs) x) m.2 (minus (read_is_magnitude bs m.0 c.0) c.1))
        | inr q ↦ let c = capped_found (2 ^ N - 1) n (magnitude_at (b ∷ bs)) q.1 in no_sign (read_is_magnitude (b ∷ bs) n c.0) (omega (arith, c.1))
      ]
    ]

-- the digits so far are no more than the whole
pub least : (hex : Bool) (bs : List ℕ) (before n : ℕ) → value_at hex before bs ≡ Some n → before ≤ n
least hex [] before n e = let same = some_same before n e in omega arith
least hex (b ∷ bs) before n e =
    elim (chosen (b == 95) (value_at hex before bs) _ (Some n) e) [
      | inl h ↦ least hex bs before n h.1
      | inr h ↦ elim (chosen (digit_test hex b) (value_at hex (base hex * before + hex_value b) bs) None (Some n) h.1) [
        | inl d ↦ scaled hex before (hex_value b) n (least hex bs (base hex * before + hex_value b) n d.1)
        | inr d ↦ absurd (none_some n d.1)
      ]
    ]
  where
    scaled : (hex : Bool) (before d n : ℕ) → base hex * before + d ≤ n → before ≤ n
    scaled true before d n l = omega arith
    scaled false before d n l = omega arith

-- a further digit makes the number too large
pub no_room : (hex : Bool) (all rest bs : List ℕ) (value b : ℕ) → value_at hex value rest ≡ value_at hex 0 all → rest ≡ b ∷ bs → b ≢ 95 → digit_test hex b ≡ true → 2 ^ 64 ≤ base hex * value + hex_value b → (n : ℕ) → n < 2 ^ 64 → value_at hex 0 all ≡ Some n → ⊥
no_room hex all rest bs value b same front apart t over n l e =
    let here : value_at hex (base hex * value + hex_value b) bs ≡ Some n = sym (one_digit hex value b (hex_value b) bs (ne_eqb b 95 apart) t refl) ∙ ap (value_at hex value) (sym front) ∙ same ∙ e in
    let low = least hex bs (base hex * value + hex_value b) n here in
    omega arith

-- ---- what is answered

pub found_bits : (N : ℕ) → 1 ≤ 2 ^ N → (text : List ℕ) (r : Option ℕ) → r ≡ bits_at N text → IfSome r (λ n. IsBits N text n)
found_bits N one text None e = tt
found_bits N one text (Some n) e = read_are_bits N one text n (sym e)

pub none_bits : (N : ℕ) (text : List ℕ) (r : Option ℕ) → r ≡ bits_at N text → IfNone r ((n : ℕ) → IsBits N text n → ⊥)
none_bits N text None e = λ n b. none_some n (e ∙ bits_are_read b)
none_bits N text (Some n) e = tt

pub found_u32 : (text : List ℕ) (n : ℕ) → Some n ≡ capped (2 ^ 32 - 1) (magnitude_at text) → IsU32 text n
found_u32 text n e = let c = capped_found (2 ^ 32 - 1) n (magnitude_at text) (sym e) in (read_is_magnitude text n c.0, omega (arith, c.1))

pub none_u32 : (text : List ℕ) → None ≡ capped (2 ^ 32 - 1) (magnitude_at text) → (n : ℕ) → IsU32 text n → ⊥
none_u32 text e n u = none_some n (e ∙ capped_read (2 ^ 32 - 1) n (magnitude_at text) (magnitude_is_read u.0) (omega (arith, u.1)))
