-- The word of a token, as it is read and in the text format.
use Rattle.std.proofs.Common.{◌≡◌, ℕ, ◌+◌, ◌-◌, List, [], ◌∷◌, ◌++◌, length, Option, Some, None, refl, sym, ap, ◌∙◌, arith, subst, inl, inr}
use Rattle.std.specs.Prelude.{nat_lt, codes, slice_range}
use Rattle.std.proofs.lemmas.Bool.{cond-true, cond-false, le-ltb}
use Rattle.std.proofs.lemmas.List.{length-append, take_at}
use Rattle.spec_text.specs.Lexical.{Token, StringBody, IsInteger, IsToken, string}
use Rattle.spec_text.specs.declared.TokenKind.{TokenKind}
use Rattle.spec_text.specs.declared.TokenKind.TheVariants as kind
use Rattle.spec_text.specs.declared.KeyWord.{KeyWord}
use Rattle.spec_text.specs.declared.Operator.{Operator}
use Rattle.spec_text.specs.Words as W
use Rattle.spec_text.specs.Words.{Word, LeftBracket, RightBracket, Key, Op, OffsetIs, AlignIs, Id, Number, Str, beside, IsWord, AreWords, no_word, words}
use Rattle.spec_text.specs.declared.TheConstants.{KEY_WORDS, OPERATORS}
use Rattle.lexer.specs.Reading.{is_integer, IntegerIsTested}
use Rattle.lexer.specs.Strings.{decoded}
use Rattle.lexer.specs.ReadingOfWords.{behind, placed_at, with_integer, memarg_at, by_key, by_operator, keyword_at, string_at, word_at, WordsAreOne}
use Rattle.lexer.proofs.Decoding.{string_is_decoded}
use Rattle.lexer.proofs.Spellings.{chosen, behind_its_beginning, begins_behind, operator_is_no_key, offset_is_no_key, align_is_no_key, align_is_no_offset}

inside : Word → Option Word → Word
inside d None = d
inside d (Some x) = x

pub same_word : (x y : Word) → Some x ≡ Some y → x ≡ y
unfolding inside
same_word x y e = ap (inside x) e

-- ---- a word of the text format is read

as_keyword : (at : ℕ) (text : List ℕ) (key : Option KeyWord) (op : Option Operator) → beside (λ r. r.now) text KEY_WORDS ≡ key → beside (λ r. r.now) text OPERATORS ≡ op → keyword_at at text ≡ by_key key (by_operator op (memarg_at at text))
as_keyword at text key op e f = ap (λ x. by_key x (by_operator (beside (λ r. r.now) text OPERATORS) (memarg_at at text))) e ∙ ap (λ x. by_key key (by_operator x (memarg_at at text))) f

-- the quotes of a string
quoted_slice : (body : List ℕ) → slice_range (34 ∷ body ++ 34 ∷ []) 1 (length (34 ∷ body ++ 34 ∷ []) - 1) ≡ body
quoted_slice body =
    let long : length (body ++ 34 ∷ []) ≡ length body + 1 = length-append body (34 ∷ []) in
    let all : length (34 ∷ body ++ 34 ∷ []) ≡ length (body ++ 34 ∷ []) + 1 = omega arith in
    take_at body (34 ∷ []) ((length (34 ∷ body ++ 34 ∷ []) - 1) - 1) (omega arith)

string_is_read : (body bytes : List ℕ) → StringBody body bytes → string_at (34 ∷ body ++ 34 ∷ []) ≡ Some (Str bytes)
string_is_read body bytes s =
    let long : length (body ++ 34 ∷ []) ≡ length body + 1 = length-append body (34 ∷ []) in
    let all : length (34 ∷ body ++ 34 ∷ []) ≡ length (body ++ 34 ∷ []) + 1 = omega arith in
    cond-false (nat_lt (length (34 ∷ body ++ 34 ∷ [])) 2) None (Some (Str (decoded (slice_range (34 ∷ body ++ 34 ∷ []) 1 (length (34 ∷ body ++ 34 ∷ []) - 1))))) (le-ltb (length (34 ∷ body ++ 34 ∷ [])) 2 (omega arith))
    ∙ ap (λ (xs : List ℕ). Some (Str (decoded xs))) (quoted_slice body) ∙ ap (λ (xs : List ℕ). Some (Str xs)) (string_is_decoded s)

module _ (tested : IntegerIsTested) where
  offset_is_read : (at : ℕ) (number : List ℕ) → IsInteger number → keyword_at at (codes "offset=" ++ number) ≡ Some (OffsetIs (placed_at at number))
  offset_is_read at number u =
      let b = behind_its_beginning (codes "offset=") number in
      let n = offset_is_no_key (codes "offset=" ++ number) number b in
      as_keyword at (codes "offset=" ++ number) None None n.0 n.1
      ∙ ap (λ x. with_integer (λ t. OffsetIs (placed_at at t)) x (with_integer (λ t. AlignIs (placed_at at t)) (behind (codes "align=") (codes "offset=" ++ number)) None)) b
      ∙ cond-true (is_integer number) (Some (OffsetIs (placed_at at number))) None ((tested number).1 u)

  align_is_read : (at : ℕ) (number : List ℕ) → IsInteger number → keyword_at at (codes "align=" ++ number) ≡ Some (AlignIs (placed_at at number))
  align_is_read at number u =
      let b = behind_its_beginning (codes "align=") number in
      let n = align_is_no_key (codes "align=" ++ number) number b in
      as_keyword at (codes "align=" ++ number) None None n.0 n.1
      ∙ ap (λ x. with_integer (λ t. OffsetIs (placed_at at t)) x (with_integer (λ t. AlignIs (placed_at at t)) (behind (codes "align=") (codes "align=" ++ number)) None)) (align_is_no_offset number)
      ∙ ap (λ x. with_integer (λ t. AlignIs (placed_at at t)) x None) b
      ∙ cond-true (is_integer number) (Some (AlignIs (placed_at at number))) None ((tested number).1 u)

  pub word_is_read : {t : Token} {w : Word} → IsWord t w → word_at t ≡ Some w
  word_is_read W.left = refl
  word_is_read W.right = refl
  word_is_read (W.key {at = at} {text = text} {k = k} e) = ap (λ x. by_key x (by_operator (beside (λ r. r.now) text OPERATORS) (memarg_at at text))) e
  word_is_read (W.op {at = at} {text = text} {o = op} e) = as_keyword at text None (Some op) (operator_is_no_key text op e) e
  word_is_read (W.offset {at = at} {number = number} e u) = ap (keyword_at at) e ∙ offset_is_read at number u
  word_is_read (W.align {at = at} {number = number} e u) = ap (keyword_at at) e ∙ align_is_read at number u
  word_is_read W.id = refl
  word_is_read W.number = refl
  word_is_read (W.string {body = body} {bytes = bytes} e s) = ap string_at e ∙ string_is_read body bytes s

  -- ---- what is read is a word of the text format

  by_argument : (text : List ℕ) (at : ℕ) (w : Word) (offset align : Option (List ℕ)) → behind (codes "offset=") text ≡ offset → behind (codes "align=") text ≡ align
      → with_integer (λ t. OffsetIs (placed_at at t)) offset (with_integer (λ t. AlignIs (placed_at at t)) align None) ≡ Some w → IsWord (record { kind = kind.Keyword; from = at; text = text }) w
  by_argument text at w (Some number) align e f h =
      elim (chosen (is_integer number) (Some (OffsetIs (placed_at at number))) None (Some w) h) [
        | inl p ↦ subst (λ x. IsWord (record { kind = kind.Keyword; from = at; text = text }) x) (same_word (OffsetIs (placed_at at number)) w p.1) (W.offset (begins_behind (codes "offset=") text number e) ((tested number).0 p.0))
        | inr p ↦ absurd (let wrong : None ≡ Some w = p.1 in cc)
      ]
  by_argument text at w None (Some number) e f h =
      elim (chosen (is_integer number) (Some (AlignIs (placed_at at number))) None (Some w) h) [
        | inl p ↦ subst (λ x. IsWord (record { kind = kind.Keyword; from = at; text = text }) x) (same_word (AlignIs (placed_at at number)) w p.1) (W.align (begins_behind (codes "align=") text number f) ((tested number).0 p.0))
        | inr p ↦ absurd (let wrong : None ≡ Some w = p.1 in cc)
      ]
  by_argument text at w None None e f h = absurd (let wrong : None ≡ Some w = h in cc)

  by_table : (text : List ℕ) (at : ℕ) (w : Word) (key : Option KeyWord) (op : Option Operator) → beside (λ r. r.now) text KEY_WORDS ≡ key → beside (λ r. r.now) text OPERATORS ≡ op
      → by_key key (by_operator op (memarg_at at text)) ≡ Some w → IsWord (record { kind = kind.Keyword; from = at; text = text }) w
  by_table text at w (Some k) op e f h = subst (λ x. IsWord (record { kind = kind.Keyword; from = at; text = text }) x) (same_word (Key k) w h) (W.key e)
  by_table text at w None (Some o) e f h = subst (λ x. IsWord (record { kind = kind.Keyword; from = at; text = text }) x) (same_word (Op o) w h) (W.op f)
  by_table text at w None None e f h = by_argument text at w (behind (codes "offset=") text) (behind (codes "align=") text) refl refl h

  keyword_is : (text : List ℕ) (at : ℕ) (w : Word) → keyword_at at text ≡ Some w → IsWord (record { kind = kind.Keyword; from = at; text = text }) w
  keyword_is text at w h = by_table text at w (beside (λ r. r.now) text KEY_WORDS) (beside (λ r. r.now) text OPERATORS) refl refl h

  string_is : (text : List ℕ) (at : ℕ) (w : Word) (rest : List ℕ) → IsToken kind.Text text rest → string_at text ≡ Some w → IsWord (record { kind = kind.Text; from = at; text = text }) w
  string_is text at w rest (string {body} {bytes} s) h =
      subst (λ x. IsWord (record { kind = kind.Text; from = at; text = text }) x) (same_word (Str bytes) w (sym (string_is_read body bytes s) ∙ h)) (W.string refl s)

  -- a token of a text
  pub read_is_word : (of : TokenKind) (at : ℕ) (text rest : List ℕ) (w : Word) → IsToken of text rest → word_at (record { kind = of; from = at; text = text }) ≡ Some w → IsWord (record { kind = of; from = at; text = text }) w
  read_is_word kind.Open at text rest w t h = subst (λ x. IsWord (record { kind = kind.Open; from = at; text = text }) x) (same_word LeftBracket w h) W.left
  read_is_word kind.Close at text rest w t h = subst (λ x. IsWord (record { kind = kind.Close; from = at; text = text }) x) (same_word RightBracket w h) W.right
  read_is_word kind.Keyword at text rest w t h = keyword_is text at w h
  read_is_word kind.Name at text rest w t h = subst (λ x. IsWord (record { kind = kind.Name; from = at; text = text }) x) (same_word (Id (placed_at at text)) w h) W.id
  read_is_word kind.Integer at text rest w t h = subst (λ x. IsWord (record { kind = kind.Integer; from = at; text = text }) x) (same_word (Number (placed_at at text)) w h) W.number
  read_is_word kind.Text at text rest w t h = string_is text at w rest t h

  -- ---- one list

  one_list : {ts : List Token} {us ws : List Word} → AreWords ts us → AreWords ts ws → us ≡ ws
  one_list no_word no_word = refl
  one_list (words {t} {w} {ts} {ws = us} h hs) (words {w = v} {ws = vs} k ks) =
      ap (λ x. x ∷ us) (same_word w v (sym (word_is_read h) ∙ word_is_read k)) ∙ ap (λ (xs : List Word). v ∷ xs) (one_list hs ks)

  pub words_are_one : WordsAreOne
  words_are_one ts us ws h k = one_list h k
