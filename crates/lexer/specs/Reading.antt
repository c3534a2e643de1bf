-- One piece of a text after another, as it is read.
use Rattle.std.specs.Prelude.{◌≡◌, ◌≤◌, ℕ, ◌+◌, ◌*◌, ◌-◌, min, Bool, true, false, ◌||◌, ◌&&◌, ◌==◌, nat_le, nat_lt, List, [], ◌∷◌, length, take, Option, Some, None, Result, Ok, Err, cond}
use Rattle.spec_text.specs.Lexical.{is_white, is_digit, is_lower, is_idchar, is_hex, is_plain, is_no_newline, IsInteger}
use Rattle.spec_text.specs.declared.TokenKind.{TokenKind}
use Rattle.spec_text.specs.declared.TokenKind.TheVariants.{Open, Close, Keyword, Name, Integer, Text}
use Rattle.lexer.specs.declared.states.Fault.{Fault}
use Rattle.lexer.specs.declared.states.Fault.TheVariants.{Bad, Unclosed}
use Rattle.lexer.specs.declared.states.InString.{InString}
use Rattle.lexer.specs.declared.states.InString.TheVariants.{Plain, Slash, Second, Brace, First, Digits}
use Rattle.lexer.specs.declared.states.Mark.{Mark}
use Rattle.lexer.specs.declared.states.Mark.TheVariants.{Ends, Begins, Other}
use Rattle.lexer.specs.declared.states.Step.{Step}
use Rattle.lexer.specs.declared.states.Step.TheVariants.{Go, End, Wrong}

-- what is left after the bytes that pass
abbrev pub after_run : (ℕ → Bool) → List ℕ → List ℕ
after_run p [] = []
after_run p (b ∷ bs) = cond (p b) (after_run p bs) (b ∷ bs)

-- what is left after the end of a comment, and of those around it, of which there are `around`
abbrev pub after_comment : ℕ → List ℕ → Option (List ℕ)
after_comment around [] = None
after_comment around (b ∷ []) = None
after_comment around (b ∷ c ∷ bs) =
    cond ((b == 59) && (c == 41)) (cond (around == 0) (Some bs) (after_comment (around - 1) bs))
    (cond ((b == 40) && (c == 59)) (after_comment (around + 1) bs) (after_comment around (c ∷ bs)))

-- the mark at the front of a comment, and what is left after it
abbrev pub mark_at : List ℕ → Mark × List ℕ
mark_at [] = (Other, [])
mark_at (b ∷ []) = (Other, [])
mark_at (b ∷ c ∷ bs) = cond ((b == 59) && (c == 41)) (Ends, bs) (cond ((b == 40) && (c == 59)) (Begins, bs) (Other, c ∷ bs))

abbrev pub after_mark : ℕ → Mark → List ℕ → Option (List ℕ)
after_mark around Ends rest = cond (around == 0) (Some rest) (after_comment (around - 1) rest)
after_mark around Begins rest = after_comment (around + 1) rest
after_mark around Other rest = after_comment around rest

abbrev pub hex_value : ℕ → ℕ
hex_value b = cond (nat_le b 57) (b - 48) (cond (nat_le b 70) (b - 55) (b - 87))

abbrev pub is_short : ℕ → Bool
is_short b = (b == 116) || (b == 110) || (b == 114) || (b == 34) || (b == 39) || (b == 92)

abbrev pub is_scalar : ℕ → Bool
is_scalar n = nat_lt n 55296 || (nat_le 57344 n && nat_lt n 1114112)

-- one byte within a string. A number above the scalar values stays one.
abbrev pub step_of : InString → ℕ → Step
step_of Plain b = cond (b == 34) End (cond (b == 92) (Go Slash) (cond (is_plain b) (Go Plain) Wrong))
step_of Slash b = cond (is_short b) (Go Plain) (cond (b == 117) (Go Brace) (cond (is_hex b) (Go Second) Wrong))
step_of Second b = cond (is_hex b) (Go Plain) Wrong
step_of Brace b = cond (b == 123) (Go First) Wrong
step_of First b = cond (is_hex b) (Go (Digits (hex_value b))) Wrong
step_of (Digits n) b =
    cond (is_hex b) (Go (Digits (min (16 * n + hex_value b) 1114112))) (cond ((b == 125) && is_scalar n) (Go Plain) Wrong)

-- what is left after a string's end
abbrev pub after_string : InString → List ℕ → Result (List ℕ) Fault
after_string state [] = Err Unclosed
after_string state (b ∷ bs) = elim (step_of state b) [ Go next ↦ after_string next bs | End ↦ Ok bs | Wrong ↦ Err Bad ]

-- digits with single _ between them; had: a digit came before
abbrev pub is_digits : (ℕ → Bool) → Bool → List ℕ → Bool
is_digits p had [] = had
is_digits p had (b ∷ bs) = cond (p b) (is_digits p true bs) (cond (had && (b == 95)) (is_digits p false bs) false)

abbrev pub is_unsigned : List ℕ → Bool
is_unsigned [] = false
is_unsigned (b ∷ []) = is_digits is_digit false (b ∷ [])
is_unsigned (b ∷ c ∷ bs) = cond ((b == 48) && (c == 120)) (is_digits is_hex false bs) (is_digits is_digit false (b ∷ c ∷ bs))

abbrev pub is_integer : List ℕ → Bool
is_integer [] = false
is_integer (b ∷ bs) = cond ((b == 43) || (b == 45)) (is_unsigned bs) (is_unsigned (b ∷ bs))

abbrev pub is_name : List ℕ → Bool
is_name [] = false
is_name (b ∷ []) = false
is_name (b ∷ c ∷ bs) = b == 36

abbrev pub kind_of : List ℕ → Option TokenKind
kind_of [] = None
kind_of (b ∷ bs) =
    cond (is_lower b) (Some Keyword) (cond (is_name (b ∷ bs)) (Some Name) (cond (is_integer (b ∷ bs)) (Some Integer) None))

-- A piece is the kind of a token, or None for what stands between tokens, and what is left after it.
abbrev pub Read : Type 0
Read = Result (Option TokenKind × List ℕ) Fault

abbrev pub as_comment : Option (List ℕ) → Read
as_comment None = Err Unclosed
as_comment (Some rest) = Ok (None, rest)

abbrev pub as_text : Result (List ℕ) Fault → Read
as_text (Ok rest) = Ok (Some Text, rest)
as_text (Err fault) = Err fault

abbrev pub as_run : Option TokenKind → List ℕ → Read
as_run None rest = Err Bad
as_run (Some kind) rest = Ok (Some kind, rest)

abbrev pub run_at : List ℕ → Read
run_at text = let rest = after_run is_idchar text in as_run (kind_of (take (length text - length rest) text)) rest

abbrev pub line_at : List ℕ → Read
line_at [] = Err Bad
line_at (b ∷ bs) = cond (b == 59) (Ok (None, after_run is_no_newline bs)) (Err Bad)

abbrev pub bracket_at : List ℕ → Read
bracket_at [] = Ok (Some Open, [])
bracket_at (b ∷ bs) = cond (b == 59) (as_comment (after_comment 0 bs)) (Ok (Some Open, b ∷ bs))

abbrev pub piece_at : List ℕ → Read
piece_at [] = Err Bad
piece_at (b ∷ bs) =
    cond (is_white b) (Ok (None, bs))
    (cond (b == 59) (line_at bs)
    (cond (b == 40) (bracket_at bs)
    (cond (b == 41) (Ok (Some Close, bs))
    (cond (b == 34) (as_text (after_string Plain bs))
    (cond (is_idchar b) (run_at (b ∷ bs)) (Err Bad))))))

-- ---- what the functions return, behind their references

abbrev pub seen : {R : Type 0} → (R → List ℕ) → Result (Option TokenKind × R) Fault → Read
seen now (Ok x) = Ok (x.0, now x.1)
seen now (Err fault) = Err fault

abbrev pub left : {R : Type 0} → (R → List ℕ) → Option R → Option (List ℕ)
left now None = None
left now (Some rest) = Some (now rest)

abbrev pub left_or_fault : {R : Type 0} → (R → List ℕ) → Result R Fault → Result (List ℕ) Fault
left_or_fault now (Ok rest) = Ok (now rest)
left_or_fault now (Err fault) = Err fault

abbrev pub digit_test : Bool → ℕ → Bool
digit_test hexadecimal = cond hexadecimal is_hex is_digit

-- the number within a string has not grown past the scalar values
abbrev pub InRange : InString → Type 0
InRange Plain = Unit {0}
InRange Slash = Unit {0}
InRange Second = Unit {0}
InRange Brace = Unit {0}
InRange First = Unit {0}
InRange (Digits n) = n ≤ 1114112

abbrev pub StaysInRange : Step → Type 0
StaysInRange (Go state) = InRange state
StaysInRange End = Unit {0}
StaysInRange Wrong = Unit {0}

-- the texts that pass are the integers
abbrev pub IntegerIsTested : Type 0
IntegerIsTested = (text : List ℕ) → (is_integer text ≡ true → IsInteger text) × (IsInteger text → is_integer text ≡ true)
