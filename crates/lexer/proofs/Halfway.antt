-- The words so far, and the tokens of the rest.
use Rattle.std.proofs.Common.{◌≡◌, ℕ, ◌+◌, ◌≤◌, List, [], ◌∷◌, ◌++◌, length, Some, None, refl, sym, ◌∙◌, arith, subst, append_assoc}
use Rattle.std.proofs.lemmas.List.{append-nil}
use Rattle.spec_text.specs.Lexical as L
use Rattle.spec_text.specs.Lexical.{LexesFrom, end, blank, token, IsToken, Lexes}
use Rattle.spec_text.specs.Words.{Word, IsWord, AreWords, no_word, words}
use Rattle.lexer.specs.declared.list.Token.{Token}
use Rattle.lexer.specs.Views as listed
use Rattle.lexer.specs.Reading.{IntegerIsTested}
use Rattle.lexer.specs.ReadingOfWords.{word_at}
use Rattle.lexer.proofs.OneWord.{word_is_read, read_is_word}

-- Each token is one of the text format, and what words the rest is completes the words so far.
pub record Half (text : List ℕ) (tokens rest : List Token) (found : List Word) : Type 0 where
  pub built : (ws : List Word) → AreWords (listed.views text rest) ws → AreWords (listed.views text tokens) (found ++ ws)
  pub only : (ws : List Word) → AreWords (listed.views text tokens) ws → (us : List Word) × AreWords (listed.views text rest) us
  pub spans : (at : ℕ) × listed.SpansRise at rest (length text)
  pub lexed : (at : ℕ) × (left : List ℕ) × LexesFrom at left (listed.views text rest)

pub half_start : (text : List ℕ) (tokens : List Token) → Lexes text (listed.views text tokens) → listed.SpansRise 0 tokens (length text) → Half text tokens tokens []
half_start text tokens l s = record { built = λ ws h. h; only = λ ws h. (ws, h); spans = (0, s); lexed = (0, text, l.pieces) }

-- the first token's kind and bytes
first_token : {at : ℕ} {left : List ℕ} {ts : List L.Token} → LexesFrom at left ts → (t : L.Token) (us : List L.Token) → ts ≡ t ∷ us
    → (rest : List ℕ) × IsToken t.kind t.text rest × (here : ℕ) × (after : List ℕ) × LexesFrom here after us
first_token end t us e = absurd (let wrong : [] ≡ t ∷ us = e in cc)
first_token (blank w h l) t us e = first_token l t us e
first_token (token {at} {piece = piece} {rest = rest} {kind = kind} {tokens = ts} w h l) t us e =
    let first : record { kind = kind; from = at; text = piece } ≡ t = cc in
    let others : ts ≡ us = cc in
    (rest, subst (λ (x : L.Token). IsToken x.kind x.text rest) first h, at + length piece, rest, subst (λ (xs : List L.Token). LexesFrom (at + length piece) rest xs) others l)

first_word : {ts : List L.Token} {ws : List Word} → AreWords ts ws → (t : L.Token) (us : List L.Token) → ts ≡ t ∷ us → (w : Word) × IsWord t w × (vs : List Word) × AreWords us vs
first_word no_word t us e = absurd (let wrong : [] ≡ t ∷ us = e in cc)
first_word (words {t = s} {w = w} {ts = ts} {ws = ws} h hs) t us e =
    let first : s ≡ t = cc in
    let others : ts ≡ us = cc in
    (w, subst (λ (x : L.Token). IsWord x w) first h, ws, subst (λ (xs : List L.Token). AreWords xs ws) others hs)

pub half_within : {text : List ℕ} {tokens ts : List Token} {t : Token} {found : List Word} → Half text tokens (t ∷ ts) found → (t.from ≤ t.upto) × (t.upto ≤ length text)
half_within {text} {tokens} {ts} {t} {found} h = (omega (arith, h.spans.1.1), upto_within t.upto ts (length text) h.spans.1.2)
  where
    upto_within : (at : ℕ) (ts : List Token) (limit : ℕ) → listed.SpansRise at ts limit → at ≤ limit
    upto_within at [] limit s = s
    upto_within at (t ∷ ts) limit s = let l = upto_within t.upto ts limit s.2 in omega (arith, s.0, s.1, l)

pub half_word : (text : List ℕ) (tokens ts : List Token) (t : Token) (found : List Word) (w : Word) → IntegerIsTested → Half text tokens (t ∷ ts) found → word_at (listed.view text t) ≡ Some w → Half text tokens ts (found ++ w ∷ [])
half_word text tokens ts t found w tested h e =
    let f = first_token h.lexed.2 (listed.view text t) (listed.views text ts) refl in
    let is : IsWord (listed.view text t) w = read_is_word tested t.kind t.from (listed.view text t).text f.0 w f.1 e in
    record {
      built = λ ws k. subst (λ (xs : List Word). AreWords (listed.views text tokens) xs) (sym (append_assoc found (w ∷ []) ws)) (h.built (w ∷ ws) (words is k));
      only = λ ws k. (let u = h.only ws k in let p = first_word u.1 (listed.view text t) (listed.views text ts) refl in (p.2, p.3));
      spans = (t.upto, h.spans.1.2);
      lexed = (f.2, f.3, f.4);
    }

pub half_fault : (text : List ℕ) (tokens ts : List Token) (t : Token) (found : List Word) → IntegerIsTested → Half text tokens (t ∷ ts) found → word_at (listed.view text t) ≡ None → (ws : List Word) → AreWords (listed.views text tokens) ws → ⊥
half_fault text tokens ts t found tested h e ws k =
    let u = h.only ws k in
    let p = first_word u.1 (listed.view text t) (listed.views text ts) refl in
    let wrong : Some p.0 ≡ None = sym (word_is_read tested p.1) ∙ e in cc

pub half_all : (text : List ℕ) (tokens : List Token) (found : List Word) → Half text tokens [] found → AreWords (listed.views text tokens) found
half_all text tokens found h = subst (λ (xs : List Word). AreWords (listed.views text tokens) xs) (append-nil found) (h.built [] no_word)
