-- One piece of a text, as it is read and in the grammar.
use Rattle.std.proofs.Common.{◌≡◌, ℕ, ◌-◌, ◌<◌, Bool, true, false, ◌&&◌, ◌||◌, cond, List, [], ◌∷◌, ◌++◌, length, take, Option, Some, None, Result, Ok, Err, refl, sym, ap, ◌∙◌, arith, subst, inl, inr, append_assoc}
use Rattle.std.specs.Prelude.{◌==◌, nat_le}
use Rattle.std.proofs.lemmas.Bool.{cond-false, cond-true, eqb-true, leb-true, and_parts, or_parts, agree_below_at}
use Rattle.spec_text.specs.Lexical.{is_digit, is_lower, is_upper, is_mark, is_idchar, is_white, is_no_newline, IsToken, IsBlank, white, line, block, open_bracket, close_bracket, keyword, name, integer, string, IsLongest, Stops, BlockComment}
use Rattle.spec_text.specs.declared.TokenKind.{TokenKind}
use Rattle.spec_text.specs.declared.TokenKind.TheVariants.{Open, Close, Keyword, Name, Integer, Text}
use Rattle.lexer.specs.declared.states.Fault.{Fault}
use Rattle.lexer.specs.declared.states.Fault.TheVariants.{Bad, Unclosed}
use Rattle.lexer.specs.declared.states.InString.TheVariants.{Plain}
use Rattle.lexer.specs.Reading.{Read, piece_at, run_at, line_at, bracket_at, as_comment, as_text, as_run, after_run, after_comment, after_string, kind_of}
use Rattle.lexer.proofs.StringReading.{implies, use_implies, not_true, chosen, string_is_read, read_is_string}
use Rattle.lexer.proofs.Comments.{comment_is_read, read_is_comment, body_of}
use Rattle.lexer.proofs.Runs.{after_longest, parts, front_is}
use Rattle.lexer.proofs.RunKinds.{kind_is_read, read_kind}

-- what stands between tokens, or a token
abbrev pub IsPiece : Option TokenKind → List ℕ → List ℕ → Type 0
IsPiece None piece rest = IsBlank piece rest
IsPiece (Some kind) piece rest = IsToken kind piece rest

-- ---- a run's first byte

either : (x y : Bool) (P : Type 0) → (x ≡ true → P) → (y ≡ true → P) → (x || y) ≡ true → P
either true y P f g e = f refl
either false y P f g e = g e

same_low : (b k : ℕ) → k < 128 → (b == k) ≡ true → b < 128
same_low b k l e = let f = eqb-true b k e in omega arith

range_low : (low b high : ℕ) → high < 128 → (nat_le low b && nat_le b high) ≡ true → b < 128
range_low low b high l e = let f = leb-true b high (and_parts (nat_le low b) (nat_le b high) e).1 in omega arith

mark_low : (b : ℕ) → is_mark b ≡ true → b < 128
mark_low b =
    either _ (b == 126) _ (either _ (b == 124) _ (either _ (nat_le 94 b && nat_le b 96) _ (either _ (b == 92) _ (either _ (nat_le 60 b && nat_le b 64) _ (either _ (b == 58) _
    (either _ (nat_le 45 b && nat_le b 47) _ (either _ (b == 43) _ (either _ (b == 42) _ (either (b == 33) (nat_le 35 b && nat_le b 39) _
    (same_low b 33 (omega arith)) (range_low 35 b 39 (omega arith))) (same_low b 42 (omega arith))) (same_low b 43 (omega arith))) (range_low 45 b 47 (omega arith)))
    (same_low b 58 (omega arith))) (range_low 60 b 64 (omega arith))) (same_low b 92 (omega arith))) (range_low 94 b 96 (omega arith))) (same_low b 124 (omega arith))) (same_low b 126 (omega arith))

idchar_low : (b : ℕ) → is_idchar b ≡ true → b < 128
idchar_low b =
    either _ (is_mark b) _ (either _ (is_upper b) _ (either (is_digit b) (is_lower b) _ (range_low 48 b 57 (omega arith)) (range_low 97 b 122 (omega arith))) (range_low 65 b 90 (omega arith))) (mark_low b)

abbrev apart_from_run : ℕ → Bool
apart_from_run b = implies (is_idchar b) (cond ((((is_white b || (b == 59)) || (b == 40)) || (b == 41)) || (b == 34)) false true)

record Apart (b : ℕ) : Type 0 where
  white : is_white b ≡ false
  semicolon : (b == 59) ≡ false
  opens : (b == 40) ≡ false
  closes : (b == 41) ≡ false
  quote : (b == 34) ≡ false

idchar_apart : (b : ℕ) → is_idchar b ≡ true → Apart b
idchar_apart b h =
    let e = not_true _ (use_implies (is_idchar b) _ (agree_below_at apart_from_run (λ _. true) 128 b refl (idchar_low b h)) h) in
    let p = or_parts (((is_white b || (b == 59)) || (b == 40)) || (b == 41)) (b == 34) e in
    let q = or_parts ((is_white b || (b == 59)) || (b == 40)) (b == 41) p.0 in
    let r = or_parts (is_white b || (b == 59)) (b == 40) q.0 in
    let s = or_parts (is_white b) (b == 59) r.0 in
    record { white = s.0; semicolon = s.1; opens = r.1; closes = q.1; quote = p.1 }

-- ---- a piece of the grammar is read

blank_is_read : {piece rest : List ℕ} → IsBlank piece rest → piece_at (piece ++ rest) ≡ Ok (None, rest)
blank_is_read (white {b} h) = cond-true (is_white b) _ _ h
blank_is_read (line {body} {rest} l) = ap (λ r. Ok (None, r)) (after_longest is_no_newline body rest l)
blank_is_read (block {body} {rest} r) = ap as_comment (comment_is_read r 0)

open_is_read : (rest : List ℕ) → Stops (λ b. b == 59) rest → bracket_at rest ≡ Ok (Some Open, rest)
open_is_read [] s = refl
open_is_read (b ∷ bs) s = cond-false (b == 59) _ _ s

run_is_read : (run rest : List ℕ) (kind : TokenKind) → IsLongest is_idchar run rest → kind_of run ≡ Some kind → piece_at (run ++ rest) ≡ Ok (Some kind, rest)
run_is_read [] rest kind l e = absurd (let wrong : None ≡ Some kind = e in cc)
run_is_read (b ∷ bs) rest kind l e =
    let h = l.each.0 in
    let a = idchar_apart b h in
    let text = b ∷ bs ++ rest in
    cond-false (is_white b) _ _ a.white ∙ cond-false (b == 59) _ _ a.semicolon ∙ cond-false (b == 40) _ _ a.opens ∙ cond-false (b == 41) _ _ a.closes ∙ cond-false (b == 34) _ _ a.quote
    ∙ cond-true (is_idchar b) _ _ h
    ∙ ap (λ (r : List ℕ). as_run (kind_of (take (length text - length r) text)) r) (after_longest is_idchar (b ∷ bs) rest l)
    ∙ ap (λ (r : List ℕ). as_run (kind_of r) rest) (front_is (b ∷ bs) rest)
    ∙ ap (λ k. as_run k rest) e

token_is_read : {kind : TokenKind} {piece rest : List ℕ} → IsToken kind piece rest → piece_at (piece ++ rest) ≡ Ok (Some kind, rest)
token_is_read (open_bracket {rest} s) = open_is_read rest s
token_is_read close_bracket = refl
token_is_read (keyword {b} {bs} {rest} h l) = run_is_read (b ∷ bs) rest Keyword l (kind_is_read (keyword h l) refl)
token_is_read (name {b} {bs} {rest} l) = run_is_read (36 ∷ b ∷ bs) rest Name l (kind_is_read (name l) refl)
token_is_read (integer {bs} {rest} h l) = run_is_read bs rest Integer l (kind_is_read (integer h l) refl)
token_is_read (string {body} {bytes} {rest} s) = ap as_text (ap (after_string Plain) (append_assoc body (34 ∷ []) rest) ∙ string_is_read s rest)

pub piece_is_read : (kind : Option TokenKind) (piece rest : List ℕ) → IsPiece kind piece rest → piece_at (piece ++ rest) ≡ Ok (kind, rest)
piece_is_read None piece rest h = blank_is_read h
piece_is_read (Some kind) piece rest h = token_is_read h

-- ---- what is read is a piece of the grammar

pub record Found (kind : Option TokenKind) (text rest : List ℕ) : Type 0 where
  pub piece : List ℕ
  pub whole : text ≡ piece ++ rest
  pub is : IsPiece kind piece rest

abbrev pair_of : Read → Option TokenKind × List ℕ
pair_of (Ok p) = p
pair_of (Err e) = (None, [])

abbrev read : Option TokenKind × List ℕ → Read
read p = Ok p

-- what was found, at what was answered
found : (text : List ℕ) (k kind : Option TokenKind) (r rest : List ℕ) → read (k, r) ≡ Ok (kind, rest) → Found k text r → Found kind text rest
found text k kind r rest e h = subst (λ (p : Option TokenKind × List ℕ). Found p.0 text p.1) (ap pair_of e) h

no_read : {P : Type 0} (f : Fault) (p : Option TokenKind × List ℕ) → Err f ≡ read p → P
no_read f p e = absurd cc

line_found : (text : List ℕ) (kind : Option TokenKind) (rest : List ℕ) → line_at text ≡ Ok (kind, rest) → Found kind (59 ∷ text) rest
line_found [] kind rest e = no_read Bad (kind, rest) e
line_found (b ∷ bs) kind rest e =
    elim (chosen (b == 59) _ _ _ e) [
      | inl h ↦
          let p = parts is_no_newline bs in
          let f : Found None (59 ∷ 59 ∷ bs) (after_run is_no_newline bs) = record { piece = 59 ∷ 59 ∷ p.run; whole = ap (λ (xs : List ℕ). 59 ∷ 59 ∷ xs) p.whole; is = line p.longest } in
          subst (λ (x : ℕ). Found kind (59 ∷ x ∷ bs) rest) (sym (eqb-true b 59 h.0)) (found (59 ∷ 59 ∷ bs) None kind (after_run is_no_newline bs) rest h.1 f)
      | inr h ↦ no_read Bad (kind, rest) h.1
    ]

comment_found : (bs : List ℕ) (kind : Option TokenKind) (rest : List ℕ) (r : Option (List ℕ)) → after_comment 0 bs ≡ r → as_comment r ≡ Ok (kind, rest) → Found kind (40 ∷ 59 ∷ bs) rest
comment_found bs kind rest None e f = no_read Unclosed (kind, rest) f
comment_found bs kind rest (Some r) e f =
    let c = read_is_comment bs 0 r e in
    let b = body_of c in
    let g : Found None (40 ∷ 59 ∷ bs) r = record { piece = 40 ∷ 59 ∷ b.0; whole = ap (λ (xs : List ℕ). 40 ∷ 59 ∷ xs) b.1; is = block (subst (λ (xs : List ℕ). BlockComment xs r) b.1 c) } in
    found (40 ∷ 59 ∷ bs) None kind r rest f g

open_found : (text : List ℕ) → Stops (λ b. b == 59) text → Found (Some Open) (40 ∷ text) text
open_found text s = record { piece = 40 ∷ []; whole = refl; is = open_bracket s }

bracket_found : (text : List ℕ) (kind : Option TokenKind) (rest : List ℕ) → bracket_at text ≡ Ok (kind, rest) → Found kind (40 ∷ text) rest
bracket_found [] kind rest e = found (40 ∷ []) (Some Open) kind [] rest e (open_found [] tt)
bracket_found (b ∷ bs) kind rest e =
    elim (chosen (b == 59) _ _ _ e) [
      | inl h ↦ subst (λ (x : ℕ). Found kind (40 ∷ x ∷ bs) rest) (sym (eqb-true b 59 h.0)) (comment_found bs kind rest (after_comment 0 bs) refl h.1)
      | inr h ↦ found (40 ∷ b ∷ bs) (Some Open) kind (b ∷ bs) rest h.1 (open_found (b ∷ bs) h.0)
    ]

text_found : (bs : List ℕ) (kind : Option TokenKind) (rest : List ℕ) (r : Result (List ℕ) Fault) → after_string Plain bs ≡ r → as_text r ≡ Ok (kind, rest) → Found kind (34 ∷ bs) rest
text_found bs kind rest (Err f) e g = no_read f (kind, rest) g
text_found bs kind rest (Ok r) e g =
    let s = read_is_string bs Plain r e in
    let f : Found (Some Text) (34 ∷ bs) r = record {
      piece = 34 ∷ s.body ++ 34 ∷ [];
      whole = ap (λ (xs : List ℕ). 34 ∷ xs) (s.whole ∙ sym (append_assoc s.body (34 ∷ []) r));
      is = string s.tail.1;
    } in
    found (34 ∷ bs) (Some Text) kind r rest g f

run_found : (text : List ℕ) (kind : Option TokenKind) (rest : List ℕ) (k : Option TokenKind) → kind_of (parts is_idchar text).run ≡ k → as_run k (after_run is_idchar text) ≡ Ok (kind, rest) → Found kind text rest
run_found text kind rest None e f = no_read Bad (kind, rest) f
run_found text kind rest (Some k) e f =
    let p = parts is_idchar text in
    found text (Some k) kind (after_run is_idchar text) rest f (record { piece = p.run; whole = p.whole; is = read_kind p.run (after_run is_idchar text) k e p.longest })

run_read : (text : List ℕ) → run_at text ≡ as_run (kind_of (parts is_idchar text).run) (after_run is_idchar text)
run_read text =
    let p = parts is_idchar text in
    let rest = after_run is_idchar text in
    ap (λ (t : List ℕ). as_run (kind_of (take (length t - length rest) t)) rest) p.whole ∙ ap (λ (t : List ℕ). as_run (kind_of t) rest) (front_is p.run rest)

pub read_is_piece : (text : List ℕ) (kind : Option TokenKind) (rest : List ℕ) → piece_at text ≡ Ok (kind, rest) → Found kind text rest
read_is_piece [] kind rest e = no_read Bad (kind, rest) e
read_is_piece (b ∷ bs) kind rest e =
    elim (chosen (is_white b) _ _ _ e) [
      | inl h ↦ found (b ∷ bs) None kind bs rest h.1 (record { piece = b ∷ []; whole = refl; is = white h.0 })
      | inr h1 ↦ elim (chosen (b == 59) _ _ _ h1.1) [
        | inl h ↦ subst (λ (x : ℕ). Found kind (x ∷ bs) rest) (sym (eqb-true b 59 h.0)) (line_found bs kind rest h.1)
        | inr h2 ↦ elim (chosen (b == 40) _ _ _ h2.1) [
          | inl h ↦ subst (λ (x : ℕ). Found kind (x ∷ bs) rest) (sym (eqb-true b 40 h.0)) (bracket_found bs kind rest h.1)
          | inr h3 ↦ elim (chosen (b == 41) _ _ _ h3.1) [
            | inl h ↦ found (b ∷ bs) (Some Close) kind bs rest h.1 (subst (λ (x : ℕ). Found (Some Close) (x ∷ bs) bs) (sym (eqb-true b 41 h.0)) (record { piece = 41 ∷ []; whole = refl; is = close_bracket }))
            | inr h4 ↦ elim (chosen (b == 34) _ _ _ h4.1) [
              | inl h ↦ subst (λ (x : ℕ). Found kind (x ∷ bs) rest) (sym (eqb-true b 34 h.0)) (text_found bs kind rest (after_string Plain bs) refl h.1)
              | inr h5 ↦ elim (chosen (is_idchar b) _ _ _ h5.1) [
                | inl h ↦ run_found (b ∷ bs) kind rest (kind_of (parts is_idchar (b ∷ bs)).run) refl (sym (run_read (b ∷ bs)) ∙ h.1)
                | inr h ↦ no_read Bad (kind, rest) h.1
              ]
            ]
          ]
        ]
      ]
    ]
