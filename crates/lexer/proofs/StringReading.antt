-- Strings: reading byte by byte, and the grammar.
use Rattle.std.proofs.Common.{◌≡◌, ℕ, ◌+◌, ◌*◌, ◌<◌, min, Bool, true, false, ◌&&◌, ◌||◌, cond, List, [], ◌∷◌, ◌++◌, Result, Ok, Err, refl, sym, ap, ◌∙◌, arith, subst, inl, inr, append_assoc}
use Rattle.std.specs.Prelude.{◌==◌, ◌⊎◌, nat_le, nat_lt, encode_utf8}
use Rattle.std.specs.Char.{InScalarRange}
use Rattle.std.proofs.lemmas.Bool.{cond-false, cond-true, eqb-true, leb-true, le-leb, lt-leb, ltb-true, lt-ltb, and_parts, and_from, or_parts, or_cases, or_left, or_right, agree_below_at}
use Rattle.spec_text.specs.Lexical.{is_digit, is_hex, is_plain, HexDigit, digit, lower, upper, ShortEscape, tab, newline, return, double_quote, quote, backslash, HexNumber, whole, more, StringBody, nothing, plain, short, byte, scalar}
use Rattle.lexer.specs.declared.states.Fault.{Fault}
use Rattle.lexer.specs.declared.states.Fault.TheVariants.{Bad, Unclosed}
use Rattle.lexer.specs.declared.states.InString.{InString}
use Rattle.lexer.specs.declared.states.InString.TheVariants.{Plain, Slash, Second, Brace, First, Digits}
use Rattle.lexer.specs.declared.states.Step.{Step}
use Rattle.lexer.specs.declared.states.Step.TheVariants.{Go, End, Wrong}
use Rattle.lexer.specs.Reading.{after_string, step_of, hex_value, is_short, is_scalar}

-- ---- tests of a byte

abbrev pub implies : Bool → Bool → Bool
implies a b = cond a b true

pub use_implies : (a b : Bool) → implies a b ≡ true → a ≡ true → b ≡ true
use_implies true b h e = h
use_implies false b h e = absurd cc

pub not_true : (a : Bool) → cond a false true ≡ true → a ≡ false
not_true true e = absurd cc
not_true false e = refl

-- a test that no byte from 128 on passes
pub hex_is_low : (b : ℕ) → is_hex b ≡ true → b < 128
hex_is_low b h =
    elim (or_cases (is_digit b || (nat_le 97 b && nat_le b 102)) (nat_le 65 b && nat_le b 70) h) [
      | inl l ↦ elim (or_cases (is_digit b) (nat_le 97 b && nat_le b 102) l) [
        | inl d ↦ omega (arith, leb-true b 57 (and_parts (nat_le 48 b) (nat_le b 57) d).1)
        | inr e ↦ omega (arith, leb-true b 102 (and_parts (nat_le 97 b) (nat_le b 102) e).1)
      ]
      | inr u ↦ omega (arith, leb-true b 70 (and_parts (nat_le 65 b) (nat_le b 70) u).1)
    ]

-- what each hexadecimal digit is not
abbrev apart_from_hex : ℕ → Bool
apart_from_hex b = implies (is_hex b) (cond ((is_short b || (b == 117)) || (b == 125)) false true)

pub hex_is_apart : (b : ℕ) → is_hex b ≡ true → (is_short b ≡ false) × ((b == 117) ≡ false) × ((b == 125) ≡ false)
hex_is_apart b h =
    let e = use_implies (is_hex b) _ (agree_below_at apart_from_hex (λ _. true) 128 b refl (hex_is_low b h)) h in
    let p = or_parts (is_short b || (b == 117)) (b == 125) (not_true _ e) in
    let q = or_parts (is_short b) (b == 117) p.0 in
    (q.0, q.1, p.1)

pub digit_test : {b m : ℕ} → HexDigit b m → (is_hex b ≡ true) × (hex_value b ≡ m)
digit_test (digit {b} h) = (
  or_left (is_digit b || (nat_le 97 b && nat_le b 102)) (nat_le 65 b && nat_le b 70) (or_left (is_digit b) (nat_le 97 b && nat_le b 102) h),
  cond-true (nat_le b 57) _ _ (and_parts (nat_le 48 b) (nat_le b 57) h).1,
)
digit_test (lower {b} h) =
    let low = leb-true 97 b (and_parts (nat_le 97 b) (nat_le b 102) h).0 in (
      or_left (is_digit b || (nat_le 97 b && nat_le b 102)) (nat_le 65 b && nat_le b 70) (or_right (is_digit b) (nat_le 97 b && nat_le b 102) h),
      cond-false (nat_le b 57) _ _ (lt-leb b 57 (omega arith)) ∙ cond-false (nat_le b 70) _ _ (lt-leb b 70 (omega arith)),
    )
digit_test (upper {b} h) =
    let low = leb-true 65 b (and_parts (nat_le 65 b) (nat_le b 70) h).0 in (
      or_right (is_digit b || (nat_le 97 b && nat_le b 102)) (nat_le 65 b && nat_le b 70) h,
      cond-false (nat_le b 57) _ _ (lt-leb b 57 (omega arith)) ∙ cond-true (nat_le b 70) _ _ (and_parts (nat_le 65 b) (nat_le b 70) h).1,
    )

pub digit_small : {b m : ℕ} → HexDigit b m → m < 16
digit_small (digit {b} h) = omega (arith, leb-true b 57 (and_parts (nat_le 48 b) (nat_le b 57) h).1)
digit_small (lower {b} h) = omega (arith, leb-true b 102 (and_parts (nat_le 97 b) (nat_le b 102) h).1)
digit_small (upper {b} h) = omega (arith, leb-true b 70 (and_parts (nat_le 65 b) (nat_le b 70) h).1)

valued : {b m : ℕ} → HexDigit b m → HexDigit b (hex_value b)
valued {b} d = subst (λ (n : ℕ). HexDigit b n) (sym (digit_test d).1) d

pub digit_from_test : (b : ℕ) → is_hex b ≡ true → HexDigit b (hex_value b)
digit_from_test b h =
    elim (or_cases (is_digit b || (nat_le 97 b && nat_le b 102)) (nat_le 65 b && nat_le b 70) h) [
      | inl l ↦ elim (or_cases (is_digit b) (nat_le 97 b && nat_le b 102) l) [ inl d ↦ valued (digit {b = b} d) | inr e ↦ valued (lower {b = b} e) ]
      | inr u ↦ valued (upper {b = b} u)
    ]

-- ---- a string of the grammar is read

-- one byte on
abbrev on : Step → List ℕ → Result (List ℕ) Fault
on s bs = elim s [ Go state ↦ after_string state bs | End ↦ Ok bs | Wrong ↦ Err Bad ]

goes : (state to : InString) (b : ℕ) (bs : List ℕ) → step_of state b ≡ Go to → after_string state (b ∷ bs) ≡ after_string to bs
goes state to b bs e = ap (λ s. on s bs) e

plain_step : (b : ℕ) → is_plain b ≡ true → step_of Plain b ≡ Go Plain
plain_step b h =
    let p = not_true _ (and_parts (nat_le 32 b) _ h).1 in
    let q = or_parts ((b == 127) || (b == 34)) (b == 92) p in
    let r = or_parts (b == 127) (b == 34) q.0 in
    cond-false (b == 34) _ _ r.1 ∙ cond-false (b == 92) _ _ q.1 ∙ cond-true (is_plain b) _ _ h

short_step : {b c : ℕ} → ShortEscape b c → step_of Slash b ≡ Go Plain
short_step tab = refl
short_step newline = refl
short_step return = refl
short_step double_quote = refl
short_step quote = refl
short_step backslash = refl

second_step : (b : ℕ) → is_hex b ≡ true → step_of Slash b ≡ Go Second
second_step b h =
    let a = hex_is_apart b h in
    cond-false (is_short b) _ _ a.0 ∙ cond-false (b == 117) _ _ a.1 ∙ cond-true (is_hex b) _ _ h

-- the number so far, held to the scalar values and one more
abbrev held : ℕ → ℕ
held n = min n 1114112

held_low : (n : ℕ) → n < 16 → n ≡ held n
held_low n l = omega arith

held_more : (n d : ℕ) → min (16 * held n + d) 1114112 ≡ held (16 * n + d)
held_more n d = omega arith

pub range_test : (n : ℕ) → InScalarRange n → is_scalar n ≡ true
range_test n (inl l) = or_left (nat_lt n 55296) _ (lt-ltb n 55296 l)
range_test n (inr r) = or_right (nat_lt n 55296) _ (and_from (nat_le 57344 n) (nat_lt n 1114112) (le-leb 57344 n r.0) (lt-ltb n 1114112 (omega (arith, r.1))))

held_same : (n : ℕ) → InScalarRange n → held n ≡ n
held_same n (inl l) = omega arith
held_same n (inr r) = omega (arith, r.1)

number_is_read : {m n : ℕ} {digits : List ℕ} → HexNumber m digits n → InScalarRange n → (rest : List ℕ) → after_string (Digits (held m)) (digits ++ 125 ∷ rest) ≡ after_string Plain rest
number_is_read (whole {n}) s rest =
    goes (Digits (held n)) Plain 125 rest (cond-true (is_scalar (held n)) _ _ (ap is_scalar (held_same n s) ∙ range_test n s))
number_is_read (more {before} {b} {m} {n} {bs} d h) s rest =
    goes (Digits (held before)) (Digits (held (16 * before + m))) b (bs ++ 125 ∷ rest)
    (cond-true (is_hex b) _ _ (digit_test d).0 ∙ ap (λ v. Go (Digits v)) (ap (λ v. min (16 * held before + v) 1114112) (digit_test d).1 ∙ held_more before m))
    ∙ number_is_read h s rest

pub string_is_read : {body bytes : List ℕ} → StringBody body bytes → (rest : List ℕ) → after_string Plain (body ++ 34 ∷ rest) ≡ Ok rest
string_is_read nothing rest = refl
string_is_read (plain {b} {body} h s) rest = goes Plain Plain b (body ++ 34 ∷ rest) (plain_step b h) ∙ string_is_read s rest
string_is_read (short {b} {c} {body} h s) rest = goes Slash Plain b (body ++ 34 ∷ rest) (short_step h) ∙ string_is_read s rest
string_is_read (byte {b} {c} {m} {n} {body} h k s) rest =
    goes Slash Second b (c ∷ body ++ 34 ∷ rest) (second_step b (digit_test h).0)
    ∙ goes Second Plain c (body ++ 34 ∷ rest) (cond-true (is_hex c) _ _ (digit_test k).0) ∙ string_is_read s rest
string_is_read (scalar {b} {m} {n} {digits} {body} d h r s) rest =
    goes First (Digits (held m)) b ((digits ++ 125 ∷ body) ++ 34 ∷ rest)
    (cond-true (is_hex b) _ _ (digit_test d).0 ∙ ap (λ v. Go (Digits v)) ((digit_test d).1 ∙ held_low m (digit_small d)))
    ∙ ap (after_string (Digits (held m))) (append_assoc digits (125 ∷ body) (34 ∷ rest))
    ∙ number_is_read h r (body ++ 34 ∷ rest) ∙ string_is_read s rest

-- ---- what is read is a string

-- what stands before, and the bytes up to the end, make a body
abbrev Body : List ℕ → Type 0
Body body = (bytes : List ℕ) × StringBody body bytes

-- the digits go on to } and make a scalar value, whatever number m they began with that is held as n
abbrev Tail : InString → List ℕ → Type 0
Tail Plain body = Body body
Tail Slash body = Body (92 ∷ body)
Tail Second body = (b m : ℕ) → HexDigit b m → Body (92 ∷ b ∷ body)
Tail Brace body = Body (92 ∷ 117 ∷ body)
Tail First body = Body (92 ∷ 117 ∷ 123 ∷ body)
Tail (Digits n) body = (digits after : List ℕ) × (body ≡ digits ++ 125 ∷ after) × ((k : ℕ) → held k ≡ n → (v : ℕ) × HexNumber k digits v × InScalarRange v) × Body after

pub record Ended (state : InString) (text rest : List ℕ) : Type 0 where
  pub body : List ℕ
  pub whole : text ≡ body ++ 34 ∷ rest
  pub tail : Tail state body

pub chosen : {A : Type 0} (b : Bool) (x y z : A) → cond b x y ≡ z → ((b ≡ true) × (x ≡ z)) ⊎ ((b ≡ false) × (y ≡ z))
chosen true x y z e = inl (refl, e)
chosen false x y z e = inr (refl, e)

abbrev state_of : Step → InString
state_of (Go s) = s
state_of End = Plain
state_of Wrong = Plain

go_same : (s t : InString) → Go s ≡ Go t → s ≡ t
go_same s t e = ap state_of e

short_from_test : (b : ℕ) → is_short b ≡ true → (c : ℕ) × ShortEscape b c
short_from_test b h =
    elim (or_cases ((((b == 116) || (b == 110)) || (b == 114) || (b == 34)) || (b == 39)) (b == 92) h) [
      | inl h1 ↦ elim (or_cases (((b == 116) || (b == 110)) || (b == 114) || (b == 34)) (b == 39) h1) [
        | inl h2 ↦ elim (or_cases (((b == 116) || (b == 110)) || (b == 114)) (b == 34) h2) [
          | inl h3 ↦ elim (or_cases ((b == 116) || (b == 110)) (b == 114) h3) [
            | inl h4 ↦ elim (or_cases (b == 116) (b == 110) h4) [
              | inl e ↦ (9, subst (λ (x : ℕ). ShortEscape x 9) (sym (eqb-true b 116 e)) tab)
              | inr e ↦ (10, subst (λ (x : ℕ). ShortEscape x 10) (sym (eqb-true b 110 e)) newline)
            ]
            | inr e ↦ (13, subst (λ (x : ℕ). ShortEscape x 13) (sym (eqb-true b 114 e)) return)
          ]
          | inr e ↦ (34, subst (λ (x : ℕ). ShortEscape x 34) (sym (eqb-true b 34 e)) double_quote)
        ]
        | inr e ↦ (39, subst (λ (x : ℕ). ShortEscape x 39) (sym (eqb-true b 39 e)) quote)
      ]
      | inr e ↦ (92, subst (λ (x : ℕ). ShortEscape x 92) (sym (eqb-true b 92 e)) backslash)
    ]

range_from_test : (n : ℕ) → is_scalar n ≡ true → InScalarRange n
range_from_test n h =
    elim (or_cases (nat_lt n 55296) (nat_le 57344 n && nat_lt n 1114112) h) [
      | inl l ↦ inl (ltb-true n 55296 l)
      | inr r ↦ let p = and_parts (nat_le 57344 n) (nat_lt n 1114112) r in inr (leb-true 57344 n p.0, omega (arith, ltb-true n 1114112 p.1))
    ]

range_below : (n : ℕ) → InScalarRange n → n < 1114112
range_below n (inl l) = omega arith
range_below n (inr r) = omega (arith, r.1)

not_held : (k n : ℕ) → held k ≡ n → n < 1114112 → n ≡ k
not_held k n e l = omega arith

held_step : (k n d : ℕ) → held k ≡ n → held (16 * k + d) ≡ min (16 * n + d) 1114112
held_step k n d e = sym (held_more k d) ∙ ap (λ m. min (16 * m + d) 1114112) e

-- one byte on, the tail of the state before
turn : (state next : InString) (b : ℕ) (body : List ℕ) → step_of state b ≡ Go next → Tail next body → Tail state (b ∷ body)
turn Plain next b body e t =
    elim (chosen (b == 34) End _ (Go next) e) [
      | inl p ↦ absurd (let wrong : End ≡ Go next = p.1 in cc)
      | inr p ↦ elim (chosen (b == 92) (Go Slash) _ (Go next) p.1) [
        | inl q ↦
            let s : Tail Slash body = subst (λ (x : InString). Tail x body) (sym (go_same Slash next q.1)) t in
            subst (λ (x : ℕ). Body (x ∷ body)) (sym (eqb-true b 92 q.0)) s
        | inr q ↦ elim (chosen (is_plain b) (Go Plain) Wrong (Go next) q.1) [
          | inl r ↦ let s : Tail Plain body = subst (λ (x : InString). Tail x body) (sym (go_same Plain next r.1)) t in (b ∷ s.0, plain r.0 s.1)
          | inr r ↦ absurd (let wrong : Wrong ≡ Go next = r.1 in cc)
        ]
      ]
    ]
turn Slash next b body e t =
    elim (chosen (is_short b) (Go Plain) _ (Go next) e) [
      | inl p ↦
          let s : Tail Plain body = subst (λ (x : InString). Tail x body) (sym (go_same Plain next p.1)) t in
          let c = short_from_test b p.0 in
          (c.0 ∷ s.0, short c.1 s.1)
      | inr p ↦ elim (chosen (b == 117) (Go Brace) _ (Go next) p.1) [
        | inl q ↦
            let s : Tail Brace body = subst (λ (x : InString). Tail x body) (sym (go_same Brace next q.1)) t in
            subst (λ (x : ℕ). Body (92 ∷ x ∷ body)) (sym (eqb-true b 117 q.0)) s
        | inr q ↦ elim (chosen (is_hex b) (Go Second) Wrong (Go next) q.1) [
          | inl r ↦ let s : Tail Second body = subst (λ (x : InString). Tail x body) (sym (go_same Second next r.1)) t in s b (hex_value b) (digit_from_test b r.0)
          | inr r ↦ absurd (let wrong : Wrong ≡ Go next = r.1 in cc)
        ]
      ]
    ]
turn Second next c body e t =
    elim (chosen (is_hex c) (Go Plain) Wrong (Go next) e) [
      | inl p ↦
          let s : Tail Plain body = subst (λ (x : InString). Tail x body) (sym (go_same Plain next p.1)) t in
          λ b m d. ((16 * m + hex_value c) ∷ s.0, byte d (digit_from_test c p.0) s.1)
      | inr p ↦ absurd (let wrong : Wrong ≡ Go next = p.1 in cc)
    ]
turn Brace next b body e t =
    elim (chosen (b == 123) (Go First) Wrong (Go next) e) [
      | inl p ↦
          let s : Tail First body = subst (λ (x : InString). Tail x body) (sym (go_same First next p.1)) t in
          subst (λ (x : ℕ). Body (92 ∷ 117 ∷ x ∷ body)) (sym (eqb-true b 123 p.0)) s
      | inr p ↦ absurd (let wrong : Wrong ≡ Go next = p.1 in cc)
    ]
turn First next b body e t =
    elim (chosen (is_hex b) (Go (Digits (hex_value b))) Wrong (Go next) e) [
      | inl p ↦
          let s : Tail (Digits (hex_value b)) body = subst (λ (x : InString). Tail x body) (sym (go_same (Digits (hex_value b)) next p.1)) t in
          let d = digit_from_test b p.0 in
          let n = s.3 (hex_value b) (sym (held_low (hex_value b) (digit_small d))) in
          subst (λ (xs : List ℕ). Body (92 ∷ 117 ∷ 123 ∷ b ∷ xs)) (sym s.2) (encode_utf8 n.0 ++ s.4.0, scalar d n.1 n.2 s.4.1)
      | inr p ↦ absurd (let wrong : Wrong ≡ Go next = p.1 in cc)
    ]
turn (Digits n) next b body e t =
    elim (chosen (is_hex b) (Go (Digits (min (16 * n + hex_value b) 1114112))) _ (Go next) e) [
      | inl p ↦
          let s : Tail (Digits (min (16 * n + hex_value b) 1114112)) body = subst (λ (x : InString). Tail x body) (sym (go_same (Digits (min (16 * n + hex_value b) 1114112)) next p.1)) t in (
            b ∷ s.0,
            s.1,
            ap (λ (xs : List ℕ). b ∷ xs) s.2,
            λ k same. (let v = s.3 (16 * k + hex_value b) (held_step k n (hex_value b) same) in (v.0, more (digit_from_test b p.0) v.1, v.2)),
            s.4,
          )
      | inr p ↦ elim (chosen ((b == 125) && is_scalar n) (Go Plain) Wrong (Go next) p.1) [
        | inl q ↦
            let s : Tail Plain body = subst (λ (x : InString). Tail x body) (sym (go_same Plain next q.1)) t in
            let both = and_parts (b == 125) (is_scalar n) q.0 in
            let range = range_from_test n both.1 in (
              [],
              body,
              ap (λ (x : ℕ). x ∷ body) (eqb-true b 125 both.0),
              λ k same. (k, whole, subst InScalarRange (not_held k n same (range_below n range)) range),
              s,
            )
        | inr q ↦ absurd (let wrong : Wrong ≡ Go next = q.1 in cc)
      ]
    ]

no_end1 : (t : Bool) (s : InString) → cond t (Go s) Wrong ≡ End → ⊥
no_end1 true s e = cc
no_end1 false s e = cc

no_end2 : (t u : Bool) (r s : InString) → cond t (Go r) (cond u (Go s) Wrong) ≡ End → ⊥
no_end2 true u r s e = cc
no_end2 false u r s e = no_end1 u s e

no_end3 : (t u v : Bool) (q r s : InString) → cond t (Go q) (cond u (Go r) (cond v (Go s) Wrong)) ≡ End → ⊥
no_end3 true u v q r s e = cc
no_end3 false u v q r s e = no_end2 u v r s e

abbrev done : List ℕ → Result (List ℕ) Fault
done xs = Ok xs

ok_same : (xs ys : List ℕ) → done xs ≡ done ys → xs ≡ ys
ok_same xs ys e = cc

ends_plain : (state : InString) (b : ℕ) → step_of state b ≡ End → (state ≡ Plain) × (b ≡ 34)
ends_plain Plain b e =
    elim (chosen (b == 34) End _ End e) [
      | inl p ↦ (refl, eqb-true b 34 p.0)
      | inr p ↦ elim (chosen (b == 92) (Go Slash) _ End p.1) [
        | inl q ↦ absurd (let wrong : Go Slash ≡ End = q.1 in cc)
        | inr q ↦ elim (chosen (is_plain b) (Go Plain) Wrong End q.1) [
          | inl r ↦ absurd (let wrong : Go Plain ≡ End = r.1 in cc)
          | inr r ↦ absurd (let wrong : Wrong ≡ End = r.1 in cc)
        ]
      ]
    ]
ends_plain Slash b e = absurd (no_end3 (is_short b) (b == 117) (is_hex b) Plain Brace Second e)
ends_plain Second b e = absurd (no_end1 (is_hex b) Plain e)
ends_plain Brace b e = absurd (no_end1 (b == 123) First e)
ends_plain First b e = absurd (no_end1 (is_hex b) (Digits (hex_value b)) e)
ends_plain (Digits n) b e = absurd (no_end2 (is_hex b) ((b == 125) && is_scalar n) (Digits (min (16 * n + hex_value b) 1114112)) Plain e)

by_step : (state : InString) (b : ℕ) (bs rest : List ℕ) (s : Step) → step_of state b ≡ s → on s bs ≡ Ok rest → ((next : InString) → after_string next bs ≡ Ok rest → Ended next bs rest) → Ended state (b ∷ bs) rest
by_step state b bs rest (Go next) e f h =
    let r = h next f in
    record { body = b ∷ r.body; whole = ap (λ (xs : List ℕ). b ∷ xs) r.whole; tail = turn state next b r.body e r.tail }
by_step state b bs rest End e f h =
    let p = ends_plain state b e in
    let same : bs ≡ rest = ok_same bs rest f in
    record {
      body = [];
      whole = ap (λ (x : ℕ). x ∷ bs) p.1 ∙ ap (λ (xs : List ℕ). 34 ∷ xs) same;
      tail = subst (λ (x : InString). Tail x []) (sym p.0) ([], nothing);
    }
by_step state b bs rest Wrong e f h = absurd (let wrong : Err Bad ≡ Ok rest = f in cc)

pub read_is_string : (text : List ℕ) (state : InString) (rest : List ℕ) → after_string state text ≡ Ok rest → Ended state text rest
read_is_string [] state rest e = absurd (let wrong : Err Unclosed ≡ Ok rest = e in cc)
read_is_string (b ∷ bs) state rest e = by_step state b bs rest (step_of state b) refl e (λ next f. read_is_string bs next rest f)
