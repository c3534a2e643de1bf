-- Comments: reading by marks, and the grammar.
use Rattle.std.proofs.Common.{◌≡◌, ℕ, zero, suc, ◌+◌, ◌-◌, ◌<◌, Bool, true, false, ◌&&◌, cond, List, [], ◌∷◌, ◌++◌, Option, Some, refl, sym, ap, ◌∙◌, arith, subst, inl, inr, add-one, append_assoc}
use Rattle.std.specs.Prelude.{◌==◌}
use Rattle.std.proofs.lemmas.Bool.{cond-false, cond-true, ne_eqb, and_left, and_parts, eqb-true, eq-eqb, cases_Bool, cases_eq}
use Rattle.spec_text.specs.Lexical.{Stops, BlockComment, ends, char, semicolon, parenthesis, nested}
use Rattle.lexer.specs.declared.states.Mark.{Mark}
use Rattle.lexer.specs.declared.states.Mark.TheVariants.{Ends, Begins, Other}
use Rattle.lexer.specs.Reading.{after_comment, mark_at, after_mark}

pub by_mark : (around : ℕ) (text : List ℕ) (mark : Mark) (rest : List ℕ) → (mark, rest) ≡ mark_at text → after_comment around text ≡ after_mark around mark rest
by_mark around [] mark rest e = subst (λ (p : Mark × List ℕ). after_comment around [] ≡ after_mark around p.0 p.1) (sym e) refl
by_mark around (b ∷ []) mark rest e = subst (λ (p : Mark × List ℕ). after_comment around (b ∷ []) ≡ after_mark around p.0 p.1) (sym e) refl
by_mark around (b ∷ c ∷ bs) mark rest e =
    subst (λ (p : Mark × List ℕ). after_comment around (b ∷ c ∷ bs) ≡ after_mark around p.0 p.1) (sym e)
    (pick ((b == 59) && (c == 41)) ((b == 40) && (c == 59)))
  where
    pick : (s t : Bool) →
        cond s (cond (around == 0) (Some bs) (after_comment (around - 1) bs)) (cond t (after_comment (around + 1) bs) (after_comment around (c ∷ bs)))
        ≡ (let p : Mark × List ℕ = cond s (Ends, bs) (cond t (Begins, bs) (Other, c ∷ bs)) in after_mark around p.0 p.1)
    pick true t = refl
    pick false true = refl
    pick false false = refl

-- the same at a mark that is known
pub at_begins : (around : ℕ) (text : List ℕ) (mark : Mark) (rest all : List ℕ) → (mark, rest) ≡ mark_at text → mark ≡ Begins → after_comment around text ≡ after_comment 0 all → after_comment (around + 1) rest ≡ after_comment 0 all
at_begins around text mark rest all e m h = ap (λ k. after_mark around k rest) (sym m) ∙ sym (by_mark around text mark rest e) ∙ h

pub at_other : (around : ℕ) (text : List ℕ) (mark : Mark) (rest all : List ℕ) → (mark, rest) ≡ mark_at text → mark ≡ Other → after_comment around text ≡ after_comment 0 all → after_comment around rest ≡ after_comment 0 all
at_other around text mark rest all e m h = ap (λ k. after_mark around k rest) (sym m) ∙ sym (by_mark around text mark rest e) ∙ h

pub at_ends : (around : ℕ) (text : List ℕ) (mark : Mark) (rest all : List ℕ) → (mark, rest) ≡ mark_at text → mark ≡ Ends → 0 < around → after_comment around text ≡ after_comment 0 all → after_comment (around - 1) rest ≡ after_comment 0 all
at_ends around text mark rest all e m less h =
    sym (cond-false (around == 0) (Some rest) (after_comment (around - 1) rest) (ne_eqb around 0 (λ z. omega arith)))
    ∙ ap (λ k. after_mark around k rest) (sym m) ∙ sym (by_mark around text mark rest e) ∙ h

-- ---- reading and the grammar

-- what is left after a comment, where so many are around it
abbrev next : ℕ → List ℕ → Option (List ℕ)
next around rest = cond (around == 0) (Some rest) (after_comment (around - 1) rest)

next_more : (around : ℕ) (rest : List ℕ) → next (around + 1) rest ≡ after_comment around rest
next_more around rest =
    cond-false ((around + 1) == 0) (Some rest) (after_comment ((around + 1) - 1) rest) (ne_eqb (around + 1) 0 (λ z. omega arith))
    ∙ ap (λ n. after_comment n rest) (omega arith)

-- a character that begins no mark
other_step : (around b c : ℕ) (bs : List ℕ) → ((b == 59) && (c == 41)) ≡ false → ((b == 40) && (c == 59)) ≡ false → after_comment around (b ∷ c ∷ bs) ≡ after_comment around (c ∷ bs)
other_step around b c bs e f =
    cond-false ((b == 59) && (c == 41)) _ _ e ∙ cond-false ((b == 40) && (c == 59)) _ _ f

-- within a comment a character is followed by another
over_char : {text rest : List ℕ} (around b : ℕ) → BlockComment text rest → ((c : ℕ) (bs : List ℕ) → text ≡ c ∷ bs → (((b == 59) && (c == 41)) ≡ false) × (((b == 40) && (c == 59)) ≡ false))
    → after_comment around (b ∷ text) ≡ after_comment around text
over_char around b ends h = let f = h 59 _ refl in other_step around b 59 _ f.0 f.1
over_char around b (char {b = c} n m r) h = let f = h c _ refl in other_step around b c _ f.0 f.1
over_char around b (semicolon s r) h = let f = h 59 _ refl in other_step around b 59 _ f.0 f.1
over_char around b (parenthesis s r) h = let f = h 40 _ refl in other_step around b 40 _ f.0 f.1
over_char around b (nested r q) h = let f = h 40 _ refl in other_step around b 40 _ f.0 f.1

stop_at : (p : ℕ → Bool) (text : List ℕ) (c : ℕ) (bs : List ℕ) → Stops p text → text ≡ c ∷ bs → p c ≡ false
stop_at p [] c bs h e = absurd cc
stop_at p (d ∷ ds) c bs h e = let same : d ≡ c = cc in subst (λ x. p x ≡ false) same h

-- a comment of the grammar is read
pub comment_is_read : {text rest : List ℕ} → BlockComment text rest → (around : ℕ) → after_comment around text ≡ next around rest
comment_is_read ends around = refl
comment_is_read (char {b} {text} n m r) around =
    over_char around b r (λ c bs e. (and_left (b == 59) (c == 41) (ne_eqb b 59 n), and_left (b == 40) (c == 59) (ne_eqb b 40 m))) ∙ comment_is_read r around
comment_is_read (semicolon {text} s r) around =
    over_char around 59 r (λ c bs e. (stop_at (λ x. x == 41) text c bs s e, refl)) ∙ comment_is_read r around
comment_is_read (parenthesis {text} s r) around =
    over_char around 40 r (λ c bs e. (refl, stop_at (λ x. x == 59) text c bs s e)) ∙ comment_is_read r around
comment_is_read (nested {text} {mid} {rest} r q) around =
    comment_is_read r (around + 1) ∙ (next_more around mid ∙ comment_is_read q around)

-- the ends of a comment and of those around it
abbrev Closes : ℕ → List ℕ → List ℕ → Type 0
Closes zero text rest = BlockComment text rest
Closes (suc around) text rest = (mid : List ℕ) × BlockComment text mid × Closes around mid rest

wider : (around : ℕ) (text text' rest : List ℕ) → ((mid : List ℕ) → BlockComment text mid → BlockComment text' mid) → Closes around text rest → Closes around text' rest
wider zero text text' rest f h = f rest h
wider (suc around) text text' rest f h = (h.0, f h.0 h.1, h.2)

inner : (around : ℕ) (text rest : List ℕ) → Closes (suc around) text rest → Closes around (40 ∷ 59 ∷ text) rest
inner zero text rest h = nested h.1 h.2
inner (suc around) text rest h = (h.2.0, nested h.1 h.2.1, h.2.2)

-- the second test fails where the first holds
second_fails : (x y : Bool) → (x && y) ≡ false → x ≡ true → y ≡ false
second_fails true y e h = e
second_fails false y e h = absurd cc

one_more : (b c : ℕ) (bs mid : List ℕ) → ((b == 59) && (c == 41)) ≡ false → ((b == 40) && (c == 59)) ≡ false → BlockComment (c ∷ bs) mid → BlockComment (b ∷ c ∷ bs) mid
one_more b c bs mid s t r =
    elim (cases_eq b 59) [
      | inl e ↦ subst (λ (x : ℕ). BlockComment (x ∷ c ∷ bs) mid) (sym e) (semicolon (second_fails (b == 59) (c == 41) s (eq-eqb b 59 e)) r)
      | inr n ↦ elim (cases_eq b 40) [
        | inl e ↦ subst (λ (x : ℕ). BlockComment (x ∷ c ∷ bs) mid) (sym e) (parenthesis (second_fails (b == 40) (c == 59) t (eq-eqb b 40 e)) r)
        | inr m ↦ char n m r
      ]
    ]

at_close : (around : ℕ) (bs rest : List ℕ) → next around bs ≡ Some rest → ((a : ℕ) → after_comment a bs ≡ Some rest → Closes a bs rest) → Closes around (59 ∷ 41 ∷ bs) rest
at_close zero bs rest e h = let same : bs ≡ rest = cc in subst (λ (r : List ℕ). BlockComment (59 ∷ 41 ∷ bs) r) same ends
at_close (suc around) bs rest e h =
    let less : next (suc around) bs ≡ after_comment around bs = ap (λ n. next n bs) (sym (add-one around)) ∙ next_more around bs in
    (bs, ends, h around (sym less ∙ e))

-- what is read is in the grammar
pub read_is_comment : (text : List ℕ) (around : ℕ) (rest : List ℕ) → after_comment around text ≡ Some rest → Closes around text rest
read_is_comment [] around rest e = absurd cc
read_is_comment (b ∷ []) around rest e = absurd cc
read_is_comment (b ∷ c ∷ bs) around rest e =
    elim (cases_Bool ((b == 59) && (c == 41))) [
      | inl s ↦
          let p = and_parts (b == 59) (c == 41) s in
          let closed = at_close around bs rest (sym (cond-true ((b == 59) && (c == 41)) _ _ s) ∙ e) (λ a f. read_is_comment bs a rest f) in
          subst (λ (x : ℕ). Closes around (x ∷ c ∷ bs) rest) (sym (eqb-true b 59 p.0)) (subst (λ (x : ℕ). Closes around (59 ∷ x ∷ bs) rest) (sym (eqb-true c 41 p.1)) closed)
      | inr s ↦
          let f = sym (cond-false ((b == 59) && (c == 41)) _ _ s) ∙ e in
          elim (cases_Bool ((b == 40) && (c == 59))) [
            | inl t ↦
                let p = and_parts (b == 40) (c == 59) t in
                let more : after_comment (suc around) bs ≡ Some rest = ap (λ n. after_comment n bs) (sym (add-one around)) ∙ sym (cond-true ((b == 40) && (c == 59)) _ _ t) ∙ f in
                let closed = inner around bs rest (read_is_comment bs (suc around) rest more) in
                subst (λ (x : ℕ). Closes around (x ∷ c ∷ bs) rest) (sym (eqb-true b 40 p.0)) (subst (λ (x : ℕ). Closes around (40 ∷ x ∷ bs) rest) (sym (eqb-true c 59 p.1)) closed)
            | inr t ↦ wider around (c ∷ bs) (b ∷ c ∷ bs) rest (λ mid r. one_more b c bs mid s t r) (read_is_comment (c ∷ bs) around rest (sym (cond-false ((b == 40) && (c == 59)) _ _ t) ∙ f))
          ]
    ]

-- the bytes of a comment
pub body_of : {text rest : List ℕ} → BlockComment text rest → (body : List ℕ) × (text ≡ body ++ rest)
body_of ends = (59 ∷ 41 ∷ [], refl)
body_of (char {b} n m r) = let h = body_of r in (b ∷ h.0, ap (λ (xs : List ℕ). b ∷ xs) h.1)
body_of (semicolon s r) = let h = body_of r in (59 ∷ h.0, ap (λ (xs : List ℕ). 59 ∷ xs) h.1)
body_of (parenthesis s r) = let h = body_of r in (40 ∷ h.0, ap (λ (xs : List ℕ). 40 ∷ xs) h.1)
body_of (nested {text} {mid} {rest} r q) =
    let h = body_of r in
    let k = body_of q in
    (40 ∷ 59 ∷ (h.0 ++ k.0), ap (λ (xs : List ℕ). 40 ∷ 59 ∷ xs) (h.1 ∙ ap (λ (xs : List ℕ). h.0 ++ xs) k.1 ∙ sym (append_assoc h.0 k.0 rest)))
