-- The tokens so far, and those of the rest.
use Rattle.lexer.proofs.RunKinds.{integer_is_read}
use Rattle.std.proofs.Common.{false, true, ◌≡◌, ℕ, ◌+◌, ◌-◌, ◌<◌, ◌≤◌, List, [], ◌∷◌, ◌++◌, length, take, Option, Some, None, Ok, Err, refl, sym, ap, ◌∙◌, arith, subst, append_assoc}
use Rattle.std.specs.Prelude.{slice_range}
use Rattle.std.proofs.lemmas.List.{length-append, append_cancel_right, append-nil, take_at, drop_at}
use Rattle.spec_text.specs.Lexical.{IsBlank, white, line, block, IsToken, open_bracket, close_bracket, keyword, name, integer, string, IsInteger, Token, LexesFrom, end, blank, token, LexesToOne}
use Rattle.spec_text.specs.declared.TokenKind.{TokenKind}
use Rattle.lexer.specs.declared.states.Fault.{Fault}
use Rattle.lexer.specs.Reading.{Read, piece_at}
use Rattle.lexer.proofs.Pieces.{IsPiece, piece_is_read, read_is_piece}

-- the tokens of one piece
abbrev tokens_of : Option TokenKind → ℕ → List ℕ → List Token
tokens_of None at piece = []
tokens_of (Some kind) at piece = record { kind = kind; from = at; text = piece } ∷ []

one_more : (kind : Option TokenKind) (at : ℕ) (text piece rest : List ℕ) (ts : List Token) → text ≡ piece ++ rest → IsPiece kind piece rest → LexesFrom (at + length piece) rest ts → LexesFrom at text (tokens_of kind at piece ++ ts)
one_more None at text piece rest ts e h l = blank e h l
one_more (Some kind) at text piece rest ts e h l = token e h l

-- what one read piece leaves of a list
record Turn (at : ℕ) (text : List ℕ) (kind : Option TokenKind) (rest : List ℕ) (ts : List Token) : Type 0 where
  piece : List ℕ
  whole : text ≡ piece ++ rest
  others : List Token
  front : ts ≡ tokens_of kind at piece ++ others
  lexes : LexesFrom (at + length piece) rest others

abbrev pair_of : Read → Option TokenKind × List ℕ
pair_of (Ok p) = p
pair_of (Err e) = (None, [])

turn_at : (at : ℕ) (text piece rest : List ℕ) (kind : Option TokenKind) (ts : List Token) (k : Option TokenKind) (r : List ℕ) → piece_at text ≡ Ok (k, r) → text ≡ piece ++ rest → IsPiece kind piece rest → LexesFrom (at + length piece) rest ts
    → Turn at text k r (tokens_of kind at piece ++ ts)
turn_at at text piece rest kind ts k r e w h l =
    let same : (kind, rest) ≡ (k, r) = ap pair_of (sym (piece_is_read kind piece rest h) ∙ ap piece_at (sym w) ∙ e) in
    subst (λ (p : Option TokenKind × List ℕ). Turn at text p.0 p.1 (tokens_of kind at piece ++ ts)) same (record { piece = piece; whole = w; others = ts; front = refl; lexes = l })

turn : {at : ℕ} {text : List ℕ} {ts : List Token} → LexesFrom at text ts → (k : Option TokenKind) (r : List ℕ) → piece_at text ≡ Ok (k, r) → Turn at text k r ts
turn end k r e = absurd (no_piece k r e)
  where
    no_piece : (k : Option TokenKind) (r : List ℕ) → piece_at [] ≡ Ok (k, r) → ⊥
    no_piece k r e = cc
turn (blank {at} {text} {piece} {rest} {tokens = ts} w h l) k r e = turn_at at text piece rest None ts k r e w h l
turn (token {at} {text} {piece} {rest} {kind} {tokens = ts} w h l) k r e = turn_at at text piece rest (Some kind) ts k r e w h l

-- what lexes and is not empty begins with a piece
begins : {at : ℕ} {text : List ℕ} {ts : List Token} → LexesFrom at text ts → (f : Fault) → piece_at text ≡ Err f → text ≡ []
begins end f e = refl
begins (blank {at} {text} {piece} {rest} w h l) f e = absurd (let wrong : Ok (None, rest) ≡ Err f = sym (piece_is_read None piece rest h) ∙ ap piece_at (sym w) ∙ e in cc)
begins (token {at} {text} {piece} {rest} {kind} w h l) f e = absurd (let wrong : Ok (Some kind, rest) ≡ Err f = sym (piece_is_read (Some kind) piece rest h) ∙ ap piece_at (sym w) ∙ e in cc)

-- ---- one list

same_piece : (p q rest : List ℕ) → p ++ rest ≡ q ++ rest → p ≡ q
same_piece p q rest e = append_cancel_right p q rest e

empty_lexes : {at : ℕ} {text : List ℕ} {ts : List Token} → LexesFrom at text ts → text ≡ [] → ts ≡ []
empty_lexes end e = refl
empty_lexes (blank {piece = piece} {rest = rest} w h l) e = absurd (let wrong : Ok (None, rest) ≡ piece_at [] = sym (piece_is_read None piece rest h) ∙ ap piece_at (sym w ∙ e) in cc)
empty_lexes (token {piece = piece} {rest = rest} {kind = kind} w h l) e = absurd (let wrong : Ok (Some kind, rest) ≡ piece_at [] = sym (piece_is_read (Some kind) piece rest h) ∙ ap piece_at (sym w ∙ e) in cc)

one_list : {at : ℕ} {text : List ℕ} {ts us : List Token} → LexesFrom at text ts → LexesFrom at text us → ts ≡ us
one_list end u = sym (empty_lexes u refl)
one_list (blank {at} {text} {piece} {rest} {tokens = ts} w h l) u =
    let t = turn u None rest (ap piece_at w ∙ piece_is_read None piece rest h) in
    let same : t.piece ≡ piece = same_piece t.piece piece rest (sym t.whole ∙ w) in
    one_list l (subst (λ (p : List ℕ). LexesFrom (at + length p) rest t.others) same t.lexes) ∙ sym t.front
one_list (token {at} {text} {piece} {rest} {kind} {tokens = ts} w h l) u =
    let t = turn u (Some kind) rest (ap piece_at w ∙ piece_is_read (Some kind) piece rest h) in
    let same : t.piece ≡ piece = same_piece t.piece piece rest (sym t.whole ∙ w) in
    let others = one_list l (subst (λ (p : List ℕ). LexesFrom (at + length p) rest t.others) same t.lexes) in
    ap (λ (xs : List Token). record { kind = kind; from = at; text = piece } ∷ xs) others
    ∙ ap (λ (p : List ℕ). record { kind = kind; from = at; text = p } ∷ t.others) (sym same) ∙ sym t.front

pub lexes_to_one : LexesToOne
lexes_to_one text ts us t u = one_list t.pieces u.pieces

-- ---- halfway

-- The text up to rest has these tokens: what lexes the rest completes them, and nothing else does.
pub record Half (text rest : List ℕ) (tokens : List Token) : Type 0 where
  pub before : List ℕ
  pub whole : text ≡ before ++ rest
  pub found : (ts : List Token) → LexesFrom (length before) rest ts → LexesFrom 0 text (tokens ++ ts)
  pub only : (ts : List Token) → LexesFrom 0 text ts → (us : List Token) × (ts ≡ tokens ++ us) × LexesFrom (length before) rest us

pub half_start : (text : List ℕ) → Half text text []
half_start text = record { before = []; whole = refl; found = λ ts l. l; only = λ ts l. (ts, refl, l) }

-- the tokens of one piece, as the slice of its span
abbrev pub between : Option TokenKind → List ℕ → ℕ → ℕ → List Token
between None text from upto = []
between (Some kind) text from upto = record { kind = kind; from = from; text = slice_range text from upto } ∷ []

span_is : (before piece after : List ℕ) → slice_range (before ++ (piece ++ after)) (length before) (length before + length piece) ≡ piece
span_is before piece after =
    ap (take ((length before + length piece) - length before)) (drop_at before (piece ++ after) (length before) refl)
    ∙ take_at piece after ((length before + length piece) - length before) (omega arith)

between_is : (kind : Option TokenKind) (text before rest piece after : List ℕ) → text ≡ before ++ rest → rest ≡ piece ++ after
    → tokens_of kind (length before) piece ≡ between kind text (length text - length rest) (length text - length after)
between_is None text before rest piece after e f = refl
between_is (Some kind) text before rest piece after e f =
    let w : text ≡ before ++ (piece ++ after) = e ∙ ap (λ (xs : List ℕ). before ++ xs) f in
    let long : length text ≡ length before + (length piece + length after) = ap length w ∙ length-append before (piece ++ after) ∙ ap (λ n. length before + n) (length-append piece after) in
    let mid : length rest ≡ length piece + length after = ap length f ∙ length-append piece after in
    let from : length text - length rest ≡ length before = omega arith in
    let upto : length text - length after ≡ length before + length piece = omega arith in
    let slice : slice_range text (length text - length rest) (length text - length after) ≡ piece =
    ap (λ n. slice_range text n (length text - length after)) from ∙ ap (λ n. slice_range text (length before) n) upto ∙ ap (λ (t : List ℕ). slice_range t (length before) (length before + length piece)) w ∙ span_is before piece after in
    ap (λ n. record { kind = kind; from = n; text = piece } ∷ []) (sym from) ∙ ap (λ (p : List ℕ). record { kind = kind; from = length text - length rest; text = p } ∷ []) (sym slice)

pub half_step : (text rest : List ℕ) (tokens : List Token) (kind : Option TokenKind) (after : List ℕ) → Half text rest tokens → piece_at rest ≡ Ok (kind, after)
    → Half text after (tokens ++ between kind text (length text - length rest) (length text - length after))
half_step text rest tokens kind after h e =
    let f = read_is_piece rest kind after e in
    let same = between_is kind text h.before rest f.piece after h.whole f.whole in
    let far : length (h.before ++ f.piece) ≡ length h.before + length f.piece = length-append h.before f.piece in
    subst (λ (xs : List Token). Half text after (tokens ++ xs)) same (record {
      before = h.before ++ f.piece;
      whole = h.whole ∙ ap (λ (xs : List ℕ). h.before ++ xs) f.whole ∙ sym (append_assoc h.before f.piece after);
      found = λ ts l. (
          let one = one_more kind (length h.before) rest f.piece after ts f.whole f.is (subst (λ (n : ℕ). LexesFrom n after ts) far l) in
          subst (λ (xs : List Token). LexesFrom 0 text xs) (sym (append_assoc tokens (tokens_of kind (length h.before) f.piece) ts)) (h.found (tokens_of kind (length h.before) f.piece ++ ts) one));
      only = λ ts l. (
          let u = h.only ts l in
          let t = turn u.2 kind after e in
          let piece_same : t.piece ≡ f.piece = same_piece t.piece f.piece after (sym t.whole ∙ f.whole) in (
            t.others,
            u.1 ∙ ap (λ (xs : List Token). tokens ++ xs) (t.front ∙ ap (λ (p : List ℕ). tokens_of kind (length h.before) p ++ t.others) piece_same) ∙ sym (append_assoc tokens (tokens_of kind (length h.before) f.piece) t.others),
            subst (λ (n : ℕ). LexesFrom n after t.others) (sym far) (subst (λ (p : List ℕ). LexesFrom (length h.before + length p) after t.others) piece_same t.lexes),
          ));
    })

pub half_end : (text : List ℕ) (tokens : List Token) → Half text [] tokens → LexesFrom 0 text tokens
half_end text tokens h = subst (λ (xs : List Token). LexesFrom 0 text xs) (append-nil tokens) (h.found [] end)

pub half_fault : (text rest : List ℕ) (tokens : List Token) (f : Fault) → Half text rest tokens → piece_at rest ≡ Err f → 0 < length rest → (ts : List Token) → LexesFrom 0 text ts → ⊥
half_fault text rest tokens f h e long ts l =
    let u = h.only ts l in
    let nothing_left : rest ≡ [] = begins u.2 f e in
    let none : length rest ≡ 0 = ap length nothing_left in
    omega arith

some_integer : (bs : List ℕ) → IsInteger bs → 0 < length bs
some_integer [] h = absurd (let wrong : false ≡ true = integer_is_read h in cc)
some_integer (b ∷ bs) h = omega arith

some_blank : {piece rest : List ℕ} → IsBlank piece rest → 0 < length piece
some_blank (white h) = omega arith
some_blank (line l) = omega arith
some_blank (block r) = omega arith

some_token : {kind : TokenKind} {piece rest : List ℕ} → IsToken kind piece rest → 0 < length piece
some_token (open_bracket s) = omega arith
some_token close_bracket = omega arith
some_token (keyword h l) = omega arith
some_token (name l) = omega arith
some_token (integer {bs} h l) = some_integer bs h
some_token (string s) = omega arith

some_bytes : (kind : Option TokenKind) (piece rest : List ℕ) → IsPiece kind piece rest → 0 < length piece
some_bytes None piece rest h = some_blank h
some_bytes (Some kind) piece rest h = some_token h

-- a piece takes at least a byte
pub piece_shorter : (text : List ℕ) (kind : Option TokenKind) (rest : List ℕ) → piece_at text ≡ Ok (kind, rest) → length rest < length text
piece_shorter text kind rest e =
    let f = read_is_piece text kind rest e in
    let long : length text ≡ length f.piece + length rest = ap length f.whole ∙ length-append f.piece rest in
    let some = some_bytes kind f.piece rest f.is in
    omega arith

pub half_shorter : (text rest : List ℕ) (tokens : List Token) → Half text rest tokens → length rest ≤ length text
half_shorter text rest tokens h =
    let long : length text ≡ length h.before + length rest = ap length h.whole ∙ length-append h.before rest in
    omega arith

pub half_blank : (text rest : List ℕ) (tokens : List Token) (kind : Option TokenKind) (after : List ℕ) → Half text rest tokens → piece_at rest ≡ Ok (kind, after) → kind ≡ None → Half text after tokens
half_blank text rest tokens kind after h e k =
    let one = half_step text rest tokens kind after h e in
    subst (λ (xs : List Token). Half text after xs) (append-nil tokens) (subst (λ (x : Option TokenKind). Half text after (tokens ++ between x text (length text - length rest) (length text - length after))) k one)

pub half_token : (text rest : List ℕ) (tokens : List Token) (kind : Option TokenKind) (k : TokenKind) (after : List ℕ) → Half text rest tokens → piece_at rest ≡ Ok (kind, after) → kind ≡ Some k
    → Half text after (tokens ++ record { kind = k; from = length text - length rest; text = slice_range text (length text - length rest) (length text - length after) } ∷ [])
half_token text rest tokens kind k after h e s =
    let one = half_step text rest tokens kind after h e in
    subst (λ (x : Option TokenKind). Half text after (tokens ++ between x text (length text - length rest) (length text - length after))) s one

pub half_all : (text rest : List ℕ) (tokens : List Token) → Half text rest tokens → length rest ≡ 0 → LexesFrom 0 text tokens
half_all text [] tokens h e = half_end text tokens h
half_all text (b ∷ bs) tokens h e = absurd (let wrong : 1 ≤ length (b ∷ bs) = omega arith in omega arith)
